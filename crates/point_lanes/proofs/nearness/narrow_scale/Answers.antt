use Rattle.std.proofs.Common.{refl, ap, ◌*◌, ℕ}
use Rattle.point_lanes.proofs.Nearing.{narrow_is}
use Rattle.point_lanes.proofs.nearness.narrow_scale.Goals as goal

pub invariant_of-result : goal.invariant_of-result
invariant_of-result c = record { is_scale = narrow_is c.args.near.distance _ _ c.args.near.least c.args.near.most (ap (λ (n : ℕ). 65535 * n) c.from-number.ensures) refl }

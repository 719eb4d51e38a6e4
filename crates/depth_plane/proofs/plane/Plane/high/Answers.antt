use Rattle.std.proofs.Common.{ap, pos, rules, FitsSigned}
use Rattle.std.specs.Int.{w128}
use Rattle.std.proofs.lemmas.Int.{to_z-of_z}
use Rattle.depth_plane.specs.Plane.{Coefficients}
use Rattle.depth_plane.proofs.Depths.{high_of-above, high_of-computed}
use Rattle.depth_plane.proofs.plane.Plane.high.Goals as goal

pub returns-clause-value : goal.returns-clause-value
returns-clause-value c =
    let fl : FitsSigned w128 c.outermost.result = search rules in
    let ff : FitsSigned w128 c.ceiling.result = search rules in
    let fx : FitsSigned w128 c.from-nearness.result = search rules in
    let fm : FitsSigned w128 c.min.result = search rules in
    high_of-computed c.args.tri.now c.args.sub c.args.self.now c.greatest_nearness.result c.cut_to_range.result c.from-nearness.result c.outermost.result (pos c.self.inside.area) c.ceiling.result c.min.result
    c.requires.plane c.greatest_nearness.ensures.value c.from-nearness.ensures c.outermost.ensures.value (ap (λ (v : Coefficients). v.area) c.self.view_is)
    (simp to_z-of_z at c.ceiling.ensures) (simp to_z-of_z at c.min.ensures.value) (simp to_z-of_z at c.cut_to_range.ensures.value)

pub returns-clause-above : goal.returns-clause-above
returns-clause-above c k lt e =
    let v = returns-clause-value c in
    rw v (high_of-above c.args.tri.now c.args.sub k c.greatest_nearness.ensures.valid lt e)

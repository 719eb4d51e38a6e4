use Rattle.std.proofs.Common.{arith}
use Rattle.std.proofs.lemmas.Nat.{leading_le}
use Rattle.point_lanes.proofs.Nearing.{wide_made}
use Rattle.point_lanes.proofs.nearness.wide_scale.Goals as goal

pub overflow_sub-digits : goal.overflow_sub-digits
overflow_sub-digits c = leading_le 16 c.args.near.distance

pub overflow_shl-raised : goal.overflow_shl-raised
overflow_shl-raised c = omega (arith, c.right_by-right.ensures)

pub overflow_shr-held : goal.overflow_shr-held
overflow_shr-held c = omega (arith, c.left_by-left.ensures)

pub overflow_cast-result : goal.overflow_cast-result
overflow_cast-result c = record { fits = (wide_made c.args.near.distance c.from-number.result c.right_by-right.result c.left_by-left.result c.args.near.least c.args.near.most c.from-number.ensures c.right_by-right.ensures c.left_by-left.ensures).fits }

pub invariant_of-result : goal.invariant_of-result
invariant_of-result c = record { is_scale = (wide_made c.args.near.distance c.from-number.result c.right_by-right.result c.left_by-left.result c.args.near.least c.args.near.most c.from-number.ensures c.right_by-right.ensures c.left_by-left.ensures).scale }

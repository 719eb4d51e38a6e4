use Rattle.std.proofs.Common.{rules, pos, neg_ℤ, ◌*◌, FitsSigned, w64}
use Rattle.std.proofs.lemmas.Int.{to_z-of_z}
use Rattle.box_rays.proofs.Sides.{is_right}
use Rattle.box_rays.proofs.half_space.HalfSpace.right_of.Goals as goal

pub returns-clause-right : goal.returns-clause-right
returns-clause-right c =
    let pixels : FitsSigned w64 c.from.result = search rules in let middle : FitsSigned w64 c.before_middle.result = search rules in
    λ p within. is_right (pos c.args.width) (pos (2 * c.args.column)) p.x (neg_ℤ p.y) p.w (simp (c.from.ensures, c.before_middle.ensures.value) at (simp to_z-of_z at within))

use Rattle.std.proofs.Common.{rules, pos, neg_ℤ, ◌*◌, FitsSigned, w64}
use Rattle.std.proofs.lemmas.Int.{to_z-of_z}
use Rattle.box_rays.proofs.Sides.{is_left}
use Rattle.box_rays.proofs.half_space.HalfSpace.left_of.Goals as goal

pub returns-clause-left : goal.returns-clause-left
returns-clause-left c =
    let pixels : FitsSigned w64 c.negated.result = search rules in let middle : FitsSigned w64 c.behind_middle.result = search rules in
    λ p within. is_left (pos c.args.width) (pos (2 * c.args.column)) p.x (neg_ℤ p.y) p.w (simp (c.negated.ensures.value, c.behind_middle.ensures.value) at (simp to_z-of_z at within))

use Rattle.std.proofs.Common.{rules, pos, ◌*◌, FitsSigned, w64}
use Rattle.std.proofs.lemmas.Int.{to_z-of_z}
use Rattle.box_rays.proofs.Sides.{is_above}
use Rattle.box_rays.proofs.half_space.HalfSpace.above.Goals as goal

pub returns-clause-above : goal.returns-clause-above
returns-clause-above c =
    let pixels : FitsSigned w64 c.negated.result = search rules in let middle : FitsSigned w64 c.behind_middle.result = search rules in
    λ p within. is_above (pos c.args.height) (pos (2 * c.args.row)) p.x p.y p.w (simp (c.negated.ensures.value, c.behind_middle.ensures.value) at (simp to_z-of_z at within))

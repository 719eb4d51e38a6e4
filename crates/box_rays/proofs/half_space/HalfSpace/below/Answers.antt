use Rattle.std.proofs.Common.{rules, pos, ◌*◌, FitsSigned, w64}
use Rattle.std.proofs.lemmas.Int.{to_z-of_z}
use Rattle.box_rays.proofs.Sides.{is_below}
use Rattle.box_rays.proofs.half_space.HalfSpace.below.Goals as goal

pub returns-clause-below : goal.returns-clause-below
returns-clause-below c =
    let pixels : FitsSigned w64 c.from.result = search rules in let middle : FitsSigned w64 c.before_middle.result = search rules in
    λ p within. is_below (pos c.args.height) (pos (2 * c.args.row)) p.x p.y p.w (simp (c.from.ensures, c.before_middle.ensures.value) at (simp to_z-of_z at within))

use Rattle.std.proofs.Common.{FitsSigned, w32, rules, refl}
use Rattle.std.proofs.lemmas.Int.{to_z-of_z}
use Rattle.snap_setup.proofs.snapping.short_place_of.Goals as goal

pub returns : goal.returns
returns c =
    let fx : FitsSigned w32 c.in-Some.x = search rules in let fy : FitsSigned w32 c.in-Some-short_y.y = search rules in
    let (ex, bx) = c.in-Some.ensures in let (ey, by) = c.in-Some-short_y.ensures in
    simp to_z-of_z (rw (ex, ey) refl, bx, by)

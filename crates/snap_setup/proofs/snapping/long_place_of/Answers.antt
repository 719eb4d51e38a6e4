use Rattle.std.proofs.Common.{FitsSigned, w32, rules, refl}
use Rattle.std.proofs.lemmas.Int.{to_z-of_z}
use Rattle.snap_setup.proofs.snapping.long_place_of.Goals as goal

pub returns-clause-value : goal.returns-clause-value
returns-clause-value c =
    let fx : FitsSigned w32 c.place_x.result = search rules in let fy : FitsSigned w32 c.place_y.result = search rules in
    let ex = c.place_x.ensures.value in let ey = c.place_y.ensures.value in
    simp to_z-of_z (rw (ex, ey) refl)

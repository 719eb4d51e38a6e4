use Rattle.std.proofs.Common.{◌≡◌, ℕ, ℤ, slice_index, to_z, of_z, FitsSigned, w32, rules, ◌∙◌}
use Rattle.std.specs.Int.{cast_signed}
use Rattle.std.proofs.lemmas.Int.{to_z-of_z}
use Rattle.lane_numbers.proofs.EightLanes.{each_of_eight}
use Rattle.point_lanes.proofs.places.signed.Goals as goal

one : (v : ℤ) (n : ℕ) → FitsSigned w32 v → v ≡ cast_signed w32 n → to_z w32 (of_z w32 v) ≡ cast_signed w32 n
one v n f e = to_z-of_z w32 v f ∙ e

pub returns : goal.returns
returns c =
    let at : ℕ → ℕ = λ j. slice_index c.args.numbers j in
    each_of_eight _
    (one _ (at 0) (search rules) c.cast_signed.ensures) (one _ (at 1) (search rules) c.cast_signed-2.ensures) (one _ (at 2) (search rules) c.cast_signed-3.ensures) (one _ (at 3) (search rules) c.cast_signed-4.ensures) (one _ (at 4) (search rules) c.cast_signed-5.ensures) (one _ (at 5) (search rules) c.cast_signed-6.ensures) (one _ (at 6) (search rules) c.cast_signed-7.ensures) (one _ (at 7) (search rules) c.cast_signed-8.ensures)

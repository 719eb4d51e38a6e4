-- The least and the greatest of three coordinates.
use Rattle.std.proofs.Common.{◌≡◌, ◌<◌, ℕ, ℤ, pos, List, [], ◌∷◌, length, arith, refl, slice_index_or}
use Rattle.std.specs.Int.{int_min, int_max}
use Rattle.std.specs.List.{All}
use Rattle.std.proofs.lemmas.Int.{ints, clamps}
use Rattle.std.proofs.lemmas.List.Elements.{All-get_or}
use Rattle.cull_base.specs.Piece.{IsCoordinate, least_of, greatest_of}

-- what holds of three numbers holds of a list of three
of_three : (P : List ℤ → Type 0) → ((a b c : ℤ) → P (a ∷ b ∷ c ∷ [])) → (vs : List ℤ) → length vs ≡ 3 → P vs
of_three P h (a ∷ b ∷ c ∷ []) e = h a b c
of_three P h [] e = absurd (omega arith)
of_three P h (a ∷ []) e = absurd (omega arith)
of_three P h (a ∷ b ∷ []) e = absurd (omega arith)
of_three P h (a ∷ b ∷ c ∷ d ∷ vs) e = absurd (omega arith)

pub least_of_three : (vs : List ℤ) → length vs ≡ 3 → int_min (int_min (slice_index_or vs 0 (pos 0)) (slice_index_or vs 1 (pos 0))) (slice_index_or vs 2 (pos 0)) ≡ least_of vs
least_of_three = of_three (λ vs. int_min (int_min (slice_index_or vs 0 (pos 0)) (slice_index_or vs 1 (pos 0))) (slice_index_or vs 2 (pos 0)) ≡ least_of vs) (λ a b c. refl)

pub greatest_of_three : (vs : List ℤ) → length vs ≡ 3 → int_max (int_max (slice_index_or vs 0 (pos 0)) (slice_index_or vs 1 (pos 0))) (slice_index_or vs 2 (pos 0)) ≡ greatest_of vs
greatest_of_three = of_three (λ vs. int_max (int_max (slice_index_or vs 0 (pos 0)) (slice_index_or vs 1 (pos 0))) (slice_index_or vs 2 (pos 0)) ≡ greatest_of vs) (λ a b c. refl)

-- those of coordinates are coordinates
coordinate : (vs : List ℤ) (k : ℕ) → All IsCoordinate vs → length vs ≡ 3 → k < 3 → IsCoordinate (slice_index_or vs k (pos 0))
coordinate vs k all three lt = All-get_or IsCoordinate vs k (pos 0) (omega arith) all

pub least_within : (vs : List ℤ) → All IsCoordinate vs → length vs ≡ 3 → IsCoordinate (least_of vs)
least_within vs all three =
    let h = coordinate vs 0 all three (omega arith) in let i = coordinate vs 1 all three (omega arith) in let j = coordinate vs 2 all three (omega arith) in
    rw (← least_of_three vs three) (omega (arith, ints, clamps, h.0, i.0, j.0), omega (arith, ints, clamps, h.1, i.1, j.1))

pub greatest_within : (vs : List ℤ) → All IsCoordinate vs → length vs ≡ 3 → IsCoordinate (greatest_of vs)
greatest_within vs all three =
    let h = coordinate vs 0 all three (omega arith) in let i = coordinate vs 1 all three (omega arith) in let j = coordinate vs 2 all three (omega arith) in
    rw (← greatest_of_three vs three) (omega (arith, ints, clamps, h.0, i.0, j.0), omega (arith, ints, clamps, h.1, i.1, j.1))

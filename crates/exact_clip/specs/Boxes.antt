-- The corners of a box.
use Rattle.std.specs.Prelude.{ℕ, List, [], ◌∷◌, slice_index}

-- the eight corners between the least and the greatest floats: x goes first, then y, then z
abbrev pub corners_of : List ℕ → List ℕ → List (List ℕ)
corners_of low high =
    let x0 = slice_index low 0 in let y0 = slice_index low 1 in let z0 = slice_index low 2 in
    let x1 = slice_index high 0 in let y1 = slice_index high 1 in let z1 = slice_index high 2 in
    (x0 ∷ y0 ∷ z0 ∷ []) ∷ (x1 ∷ y0 ∷ z0 ∷ []) ∷ (x0 ∷ y1 ∷ z0 ∷ []) ∷ (x1 ∷ y1 ∷ z0 ∷ [])
    ∷ (x0 ∷ y0 ∷ z1 ∷ []) ∷ (x1 ∷ y0 ∷ z1 ∷ []) ∷ (x0 ∷ y1 ∷ z1 ∷ []) ∷ (x1 ∷ y1 ∷ z1 ∷ []) ∷ []

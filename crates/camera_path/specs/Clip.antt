-- Clip coordinates: where a vertex lies as a camera sees it, before the division by w.
use Rattle.std.specs.List.{All}
use Rattle.cull_base.specs.Bounds.{Bounded}
use Rattle.std.specs.Prelude.{ℕ, ℤ, pos, ◌+◌, ◌+ℤ◌, ◌*ℤ◌, List, [], ◌∷◌, slice_index_or}
use Rattle.cull_base.specs.Depth.{floor_of}
use Rattle.cull_base.specs.declared.clip.ClipVertex.{ClipVertex}

-- A camera is three rows of four numbers, for x, y and w; a vertex has three numbers.
abbrev pub number : List ℤ → ℕ → ℤ
number row k = slice_index_or row k (pos 0)

-- the numbers lie at most so far away from 0
abbrev pub AreWithin : ℕ → List ℤ → Type 0
AreWithin n numbers = All (Bounded n) numbers

-- The row from number r of the camera: three factors in parts of 65536, and then an offset.
abbrev pub factors_sum : List ℤ → ℕ → List ℤ → ℤ
factors_sum camera r v =
    ((number camera r *ℤ number v 0) +ℤ (number camera (r + 1) *ℤ number v 1)) +ℤ (number camera (r + 2) *ℤ number v 2)

abbrev pub coordinate_of : List ℤ → ℕ → List ℤ → ℤ
coordinate_of camera r v = floor_of (factors_sum camera r v) (pos 65536) +ℤ number camera (r + 3)

unfoldable pub clip_of : List ℤ → List ℤ → ClipVertex
clip_of camera v = record { x = coordinate_of camera 0 v; y = coordinate_of camera 4 v; w = coordinate_of camera 8 v }

-- the eight corners of a box between its least and its greatest
abbrev pub corners_of : List ℤ → List ℤ → List (List ℤ)
corners_of low high =
    let x0 = number low 0 in let y0 = number low 1 in let z0 = number low 2 in
    let x1 = number high 0 in let y1 = number high 1 in let z1 = number high 2 in
    (x0 ∷ y0 ∷ z0 ∷ []) ∷ (x1 ∷ y0 ∷ z0 ∷ []) ∷ (x0 ∷ y1 ∷ z0 ∷ []) ∷ (x1 ∷ y1 ∷ z0 ∷ [])
    ∷ (x0 ∷ y0 ∷ z1 ∷ []) ∷ (x1 ∷ y0 ∷ z1 ∷ []) ∷ (x0 ∷ y1 ∷ z1 ∷ []) ∷ (x1 ∷ y1 ∷ z1 ∷ []) ∷ []

-- a vertex whose numbers are its clip coordinates
abbrev pub as_clip : List ℤ → ClipVertex
as_clip v = record { x = number v 0; y = number v 1; w = number v 2 }

-- the camera that leaves each vertex as it is
abbrev pub identity_camera : List ℤ
identity_camera =
    pos 65536 ∷ pos 0 ∷ pos 0 ∷ pos 0
    ∷ pos 0 ∷ pos 65536 ∷ pos 0 ∷ pos 0
    ∷ pos 0 ∷ pos 0 ∷ pos 65536 ∷ pos 0
    ∷ []

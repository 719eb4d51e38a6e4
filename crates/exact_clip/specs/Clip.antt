-- Clip coordinates of a position by a matrix, exactly, in parts of 2^-298.
use Rattle.std.specs.Prelude.{ℕ, ℤ, pos, ◌+◌, ◌^◌, ◌+ℤ◌, ◌*ℤ◌, List, slice_index}
use Rattle.float_bits.specs.Floats.{whole_of}

pub record Clip : Type 0 where
  pub x : ℤ
  pub y : ℤ
  pub w : ℤ

-- one of some floats, in parts of 2^-149
abbrev pub number_at : List ℕ → ℕ → ℤ
number_at floats k = whole_of (slice_index floats k)

-- four floats from a first one on, times a position and 1
unfoldable pub row_times : List ℕ → ℕ → List ℕ → ℤ
row_times matrix first position =
    (((number_at matrix first *ℤ number_at position 0)
    +ℤ (number_at matrix (first + 1) *ℤ number_at position 1))
    +ℤ (number_at matrix (first + 2) *ℤ number_at position 2))
    +ℤ (number_at matrix (first + 3) *ℤ pos (2 ^ 149))

-- by twelve floats: the rows of x, of y and of w
abbrev pub clip_of : List ℕ → List ℕ → Clip
clip_of matrix position =
    record { x = row_times matrix 0 position; y = row_times matrix 4 position; w = row_times matrix 8 position }

-- a distance, such as the near distance, in parts of 2^-298
abbrev pub distance_of : ℕ → ℤ
distance_of float = whole_of float *ℤ pos (2 ^ 149)

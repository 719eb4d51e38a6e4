-- Coordinates along one axis of the screen, in sixteenths of a pixel.
use Rattle.std.specs.Prelude.{ℕ, ℤ, pos, negsuc, ◌*◌, ◌-◌, ◌/◌, min, Bool, int_lt, int_le, ◌||◌}

-- how far a coordinate lies past 0, and 0 where it lies before
abbrev pub past_zero : ℤ → ℕ
past_zero (pos n) = n
past_zero (negsuc n) = 0

-- from a least to a greatest coordinate nothing lies in so many pixels
abbrev pub misses : ℤ → ℤ → ℕ → Bool
misses least greatest pixels = int_lt greatest (pos 0) || int_le (pos (16 * pixels)) least

-- the tile, so many sixteenths wide, of a least coordinate, and that of a greatest, moved into so many pixels
abbrev pub first_tile_of : ℤ → ℕ → ℕ
first_tile_of least side = past_zero least / side

abbrev pub last_tile_of : ℤ → ℕ → ℕ → ℕ
last_tile_of greatest pixels side = min (past_zero greatest) (16 * pixels - 1) / side

-- Where offsets stand on a screen, in sixteenths of a pixel.
use Rattle.std.specs.Prelude.{ℕ, ℤ, pos, ◌+◌, ◌*◌, ◌/◌, ◌-ℤ◌}

-- So many pixels are reached by offsets from 63 w to 65 w. The place of one, rounded to the nearest whole number.
abbrev pub place_of : ℕ → ℕ → ℕ → ℤ
place_of pixels offset w = pos ((16 * pixels * offset + w) / (2 * w)) -ℤ pos (504 * pixels)

-- The lines of a picture, subtile by subtile.
use Rattle.std.specs.Prelude.{ℕ, ◌-◌, ◌*◌, ◌/◌, min, List}
use Rattle.std.specs.List.{flat_map, range_with_len}
use Rattle.cull_base.specs.declared.nearness.Grade.{Grade}
use Rattle.cull_base.specs.Screen.{Dimensions}
use Rattle.cull_base.specs.State.{State, bound_at}
use Rattle.depth_image.specs.Picture.{number_line, shade_of}

-- a bound as a number, and the greatest in place of one above it
abbrev pub cut_shade : Grade → ℕ → ℕ
cut_shade grade bound = min (shade_of grade bound) 65535

-- the lines of so many samples of a subtile, from one on
unfoldable pub sample_lines : Grade → State → ℕ → ℕ → List ℕ
sample_lines grade s first count = flat_map (λ k. number_line (cut_shade grade (bound_at s k))) (range_with_len first count)

-- how many subtiles of a column of tiles stand side by side on the screen
abbrev pub subs_of_tile : Dimensions → ℕ → ℕ
subs_of_tile size column = min (size.width / 8 - 4 * column) 4

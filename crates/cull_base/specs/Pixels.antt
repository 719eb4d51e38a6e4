-- The pixels of a screen, each with its subtile and its sample there.
use Rattle.std.specs.Prelude.{ℕ, ℤ, pos, negsuc, ◌+◌, ◌*◌, ◌/◌, ◌%◌, Bool, ◌&&◌, int_le, int_lt}
use Rattle.std.specs.List.{list_all, list_any, range_with_len}
use Rattle.cull_base.specs.declared.rect.Rect.{Rect}
use Rattle.cull_base.specs.declared.place.Sub.{Sub}
use Rattle.cull_base.specs.Screen.{Dimensions, tile_columns_of}

-- a number that isn't negative, and 0 for one that is
abbrev pub natural : ℤ → ℕ
natural (pos n) = n
natural (negsuc n) = 0

-- the subtile in which a pixel lies, and the number of its sample there
abbrev pub sub_of_pixel : ℕ → ℕ → Sub
sub_of_pixel px py = record { column = px / 8; row = py / 4 }

abbrev pub sample_of_pixel : ℕ → ℕ → ℕ
sample_of_pixel px py = 8 * (py % 4) + px % 8

-- a test holds at each pixel of the screen, and at some pixel of it
unfoldable pub at_each_pixel : Dimensions → (ℕ → ℕ → Bool) → Bool
at_each_pixel size test = list_all (λ py. list_all (λ px. test px py) (range_with_len 0 size.width)) (range_with_len 0 size.height)

unfoldable pub at_some_pixel : Dimensions → (ℕ → ℕ → Bool) → Bool
at_some_pixel size test = list_any (λ py. list_any (λ px. test px py) (range_with_len 0 size.width)) (range_with_len 0 size.height)

abbrev pub has_pixel : Rect → ℕ → ℕ → Bool
has_pixel r px py = (int_le r.x0 (pos px) && int_lt (pos px) r.x1) && (int_le r.y0 (pos py) && int_lt (pos py) r.y1)

-- the number of the tile in which a pixel lies
abbrev pub tile_of_pixel : Dimensions → ℕ → ℕ → ℕ
tile_of_pixel size px py = py / 8 * tile_columns_of size + px / 32

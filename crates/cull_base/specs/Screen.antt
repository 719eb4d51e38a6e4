-- The screen: its size in pixels, its tiles of 32 by 8 pixels and their subtiles of 8 by 4.
use Rattle.std.specs.Prelude.{ℕ, pos, ◌≡◌, ◌+◌, ◌*◌, ◌/◌, ◌%◌, ◌≤◌, min, Bool, nat_lt, ◌&&◌}
use Rattle.std.specs.Int.{div_ceil}
use Rattle.cull_base.specs.declared.rect.Rect.{Rect}
use Rattle.cull_base.specs.declared.place.Tile.{Tile}
use Rattle.cull_base.specs.declared.place.Sub.{Sub}

pub record Dimensions : Type 0 where
  pub width : ℕ
  pub height : ℕ

abbrev pub dimensions : ℕ → ℕ → Dimensions
dimensions width height = record { width = width; height = height }

pub record IsSize (width height : ℕ) : Type 0 where
  pub whole_columns : width % 8 ≡ 0
  pub wide : 8 ≤ width
  pub within_width : width ≤ 2048
  pub whole_rows : height % 4 ≡ 0
  pub high : 4 ≤ height
  pub within_height : height ≤ 2048

abbrev pub screen_of : Dimensions → Rect
screen_of s = record { x0 = pos 0; y0 = pos 0; x1 = pos s.width; y1 = pos s.height }

abbrev pub tile_columns_of : Dimensions → ℕ
tile_columns_of s = div_ceil s.width 32

abbrev pub tile_rows_of : Dimensions → ℕ
tile_rows_of s = div_ceil s.height 8

abbrev pub tile_count_of : Dimensions → ℕ
tile_count_of s = tile_columns_of s * tile_rows_of s

-- tiles are numbered row by row from the top left
abbrev pub tile_place : Dimensions → ℕ → Tile
tile_place s t = record { column = t % tile_columns_of s; row = t / tile_columns_of s }

-- the pixels of a tile that are on the screen
abbrev pub tile_rect_of : Dimensions → ℕ → Rect
tile_rect_of s t =
    let place = tile_place s t in
    record {
      x0 = pos (32 * place.column);
      y0 = pos (8 * place.row);
      x1 = pos (min (32 * place.column + 32) s.width);
      y1 = pos (min (8 * place.row + 8) s.height);
    }

-- subtile j of a tile, of which it has four columns and two rows
abbrev pub tile_sub : Dimensions → ℕ → ℕ → Sub
tile_sub s t j = let place = tile_place s t in record { column = 4 * place.column + j % 4; row = 2 * place.row + j / 4 }

abbrev pub is_on_screen : Dimensions → Sub → Bool
is_on_screen s u = nat_lt (8 * u.column) s.width && nat_lt (4 * u.row) s.height

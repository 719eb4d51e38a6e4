-- The bins of a screen, numbered row by row from the top left: the tiles of each, and their pixels.
use Rattle.std.specs.Prelude.{ℕ, ℤ, pos, ◌≡◌, ◌+◌, ◌*◌, ◌/◌, ◌%◌, ◌<◌, min, Bool, nat_lt, nat_eq, ◌&&◌, cond}
use Rattle.cull_base.specs.Screen.{Dimensions, tile_columns_of, tile_rows_of, tile_count_of, tile_place, tile_rect_of}
use Rattle.cull_base.specs.Rectangle.{HasPixel, no_pixels}
use Rattle.cull_base.specs.Span.{has_tile}
use Rattle.cull_base.specs.declared.rect.Rect.{Rect}
use Rattle.cull_base.specs.declared.tile_span.TileSpan.{TileSpan}
use Rattle.binning.specs.Cut.{CutOf}
use Rattle.binning.specs.Axis.{bin_along, first_along}

-- the bin of a tile
unfoldable pub bin_of : Dimensions → CutOf → ℕ → ℕ
bin_of size cut tile =
    let place = tile_place size tile in
    let column = bin_along cut.columns (tile_columns_of size) place.column in
    let row = bin_along cut.rows (tile_rows_of size) place.row in
    row * cut.columns + column

-- the tiles of a bin, of which there may be none
unfoldable pub bin_span_of : Dimensions → CutOf → ℕ → TileSpan
bin_span_of size cut bin =
    let column = bin % cut.columns in
    let row = bin / cut.columns in
    record {
      first_column = first_along cut.columns (tile_columns_of size) column;
      end_column = first_along cut.columns (tile_columns_of size) (column + 1);
      first_row = first_along cut.rows (tile_rows_of size) row;
      end_row = first_along cut.rows (tile_rows_of size) (row + 1);
    }

-- a span has exactly the tiles of a bin
abbrev pub HasTilesOfBin : TileSpan → Dimensions → CutOf → ℕ → Type 0
HasTilesOfBin span size cut bin =
    (t : ℕ) → t < tile_count_of size → has_tile span (tile_place size t) ≡ nat_eq (bin_of size cut t) bin

-- some tile is in the span
abbrev pub has_tiles : TileSpan → Bool
has_tiles span = nat_lt span.first_column span.end_column && nat_lt span.first_row span.end_row

-- from the first corner of one rectangle to the second of another
abbrev pub spread_of : Rect → Rect → Rect
spread_of first last = record { x0 = first.x0; y0 = first.y0; x1 = last.x1; y1 = last.y1 }

-- the pixels on the screen of some columns and rows of tiles
abbrev pub pixels_of : Dimensions → TileSpan → Rect
pixels_of size span = record {
  x0 = pos (32 * span.first_column);
  y0 = pos (8 * span.first_row);
  x1 = pos (min (32 * span.end_column) size.width);
  y1 = pos (min (8 * span.end_row) size.height);
}

-- the pixels of the tiles of a span, and one fixed rectangle where it has none
abbrev pub span_rect_of : Dimensions → TileSpan → Rect
span_rect_of size span = cond (has_tiles span) (pixels_of size span) no_pixels

-- the pixels of a bin's tiles
unfoldable pub bin_rect_of : Dimensions → CutOf → ℕ → Rect
bin_rect_of size cut bin = span_rect_of size (bin_span_of size cut bin)

-- a pixel lies in a tile of the bin
abbrev pub IsInTileOfBin : Dimensions → CutOf → ℕ → ℤ → ℤ → Type 0
IsInTileOfBin size cut bin x y =
    (t : ℕ) × (t < tile_count_of size) × (bin_of size cut t ≡ bin) × HasPixel (tile_rect_of size t) x y

-- no tile is in the bin
abbrev pub HasNoTile : Dimensions → CutOf → ℕ → Type 0
HasNoTile size cut bin = (t : ℕ) → t < tile_count_of size → bin_of size cut t ≡ bin → ⊥

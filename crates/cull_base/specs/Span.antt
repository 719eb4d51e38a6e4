-- Columns and rows of tiles, each from a first to before an end.
use Rattle.std.specs.Prelude.{ℕ, ◌≡◌, ◌<◌, ◌≤◌, ◌+◌, ◌-◌, ◌*◌, Bool, nat_le, nat_lt, ◌&&◌}
use Rattle.cull_base.specs.Screen.{Dimensions, tile_columns_of, tile_rows_of, tile_count_of, tile_place, tile_rect_of}
use Rattle.cull_base.specs.Rectangle.{meets}
use Rattle.cull_base.specs.declared.rect.Rect.{Rect}
use Rattle.cull_base.specs.declared.place.Tile.{Tile}
use Rattle.cull_base.specs.declared.tile_span.TileSpan.{TileSpan}

-- from a first number to before an end
abbrev pub is_between : ℕ → ℕ → ℕ → Bool
is_between first end n = nat_le first n && nat_lt n end

abbrev pub has_column : TileSpan → ℕ → Bool
has_column span column = is_between span.first_column span.end_column column

abbrev pub has_row : TileSpan → ℕ → Bool
has_row span row = is_between span.first_row span.end_row row

abbrev pub has_tile : TileSpan → Tile → Bool
has_tile span place = has_row span place.row && has_column span place.column

-- the span has exactly the tiles that a rectangle meets
abbrev pub HasTilesOf : TileSpan → Dimensions → Rect → Type 0
HasTilesOf span size r = (t : ℕ) → t < tile_count_of size → has_tile span (tile_place size t) ≡ meets r (tile_rect_of size t)

-- all tiles of a screen
abbrev pub whole_span : Dimensions → TileSpan
whole_span size =
    record { first_column = 0; end_column = tile_columns_of size; first_row = 0; end_row = tile_rows_of size }

abbrev pub columns_in : TileSpan → ℕ
columns_in span = span.end_column - span.first_column

abbrev pub rows_in : TileSpan → ℕ
rows_in span = span.end_row - span.first_row

abbrev pub tiles_in : TileSpan → ℕ
tiles_in span = columns_in span * rows_in span

-- the number of the first tile of a row among the span's tiles, which are numbered row by row from the top left
abbrev pub row_start_in : TileSpan → ℕ → ℕ
row_start_in span row = (row - span.first_row) * columns_in span

abbrev pub number_in : TileSpan → Tile → ℕ
number_in span place = row_start_in span place.row + (place.column - span.first_column)

-- a span all of whose tiles are the other's
pub record IsPartOf (whole part : TileSpan) : Type 0 where
  pub first_column : whole.first_column ≤ part.first_column
  pub columns : part.first_column ≤ part.end_column
  pub end_column : part.end_column ≤ whole.end_column
  pub first_row : whole.first_row ≤ part.first_row
  pub rows : part.first_row ≤ part.end_row
  pub end_row : part.end_row ≤ whole.end_row

pub record IsSpan (size : Dimensions) (span : TileSpan) : Type 0 where
  pub columns : span.first_column ≤ span.end_column
  pub rows : span.first_row ≤ span.end_row
  pub columns_within : span.end_column ≤ tile_columns_of size
  pub rows_within : span.end_row ≤ tile_rows_of size

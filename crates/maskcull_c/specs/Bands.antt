-- Rows of tiles that are drawn onto.
use Rattle.std.specs.Prelude.{ℕ, ◌≡◌, ◌+◌, ◌<◌, List, length, ◌++◌}
use Rattle.std.specs.List.{fold}
use Rattle.cull_base.specs.Piece.{Piece, box_of}
use Rattle.cull_base.specs.Rectangle.{meets}
use Rattle.cull_base.specs.Screen.{Dimensions, tile_columns_of, tile_rect_of}
use Rattle.cull_base.specs.Span.{IsSpan}
use Rattle.cull_base.specs.Tiles.{ArePieces}
use Rattle.cull_base.specs.declared.tile_span.TileSpan.{TileSpan}
use Rattle.masked_update.specs.Canvas.{CanvasOf, IsCanvas}
use Rattle.masked_update.specs.Taken.{merged_where}
use Rattle.masked_update.specs.TileOf.{TileOf, tile_at}
use Rattle.maskcull_c.specs.Tiles.{IsAfter, row_start}

-- tiles as those of a window, row by row
abbrev pub band_of : TileSpan → List TileOf → CanvasOf
band_of window tiles = record { window = window; tiles = tiles }

-- the window has whole rows of the screen's tiles, and the tiles are as many
pub record IsBand (size : Dimensions) (window : TileSpan) (tiles : List TileOf) : Type 0 where
  pub span : IsSpan size window
  pub from_left : window.first_column ≡ 0
  pub to_right : window.end_column ≡ tile_columns_of size
  pub whole : IsCanvas (band_of window tiles)

-- the number of the first tile of a window of whole rows
abbrev pub first_in : Dimensions → TileSpan → ℕ
first_in size window = row_start size window.first_row

-- tiles that were each after a list are each after this list and these pieces
abbrev pub Adds : Dimensions → ℕ → List Piece → List TileOf → List TileOf → Type 0
Adds size first pieces old new =
    (lists : ℕ → List Piece) → IsAfter size first lists old → IsAfter size first (λ t. lists t ++ pieces) new

-- the tile with a number on the screen, into which a piece is merged if its box meets the tile; the count stays
abbrev pub merged_if_met : Dimensions → ℕ → TileOf → Piece → TileOf
merged_if_met size number tile x = merged_where (meets (box_of x) (tile_rect_of size number)) size number x tile

-- and some pieces, one after another
abbrev pub merged_with : Dimensions → ℕ → List Piece → TileOf → TileOf
merged_with size number pieces tile = fold (merged_if_met size number) tile pieces

-- These pieces are merged into each tile, whatever it held, and into each by itself.
pub record AreMerged (size : Dimensions) (first : ℕ) (pieces : List Piece) (old new : List TileOf) : Type 0 where
  pub whole : length new ≡ length old
  pub tiles : (t : ℕ) → t < length old → tile_at new t ≡ merged_with size (first + t) pieces (tile_at old t)
  pub valid : ArePieces pieces

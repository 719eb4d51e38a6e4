-- The writers of a bin's tiles, and slots from which they are taken and into which they are put back.
use Rattle.std.specs.Prelude.{◌≡◌, ℕ, ◌+◌, ◌/◌, ◌%◌, ◌*◌, ◌||◌, Bool, cond, List, length, slice_index_or}
use Rattle.atomic_table.specs.Seated.{TableId}
use Rattle.cull_base.specs.Piece.{Piece, box_of}
use Rattle.cull_base.specs.Rectangle.{meets}
use Rattle.cull_base.specs.Screen.{Dimensions, tile_columns_of, tile_place, tile_rect_of}
use Rattle.cull_base.specs.Span.{columns_in, has_tile, number_in, tiles_in}
use Rattle.cull_base.specs.Tiles.{PieceList}
use Rattle.cull_base.specs.declared.place.Tile.{Tile}
use Rattle.cull_base.specs.declared.tile_span.TileSpan.{TileSpan}
use Rattle.masked_update.specs.Canvas.{IsInWindow}
use Rattle.masked_update.specs.Forms.{IsFormOn, piece_of_form}
use Rattle.masked_update.specs.Walk.{is_in_row}
use Rattle.masked_update.specs.declared.piece_form.PieceForm.{PieceForm}
use Rattle.tile_cells.specs.Cells.{Writing}
use Rattle.tile_cells.specs.Standing.{StandsAt}
use Rattle.bin_queues.specs.Tasks.{Tasking}
use Rattle.bin_tasks.specs.Drains.{StandsAtBatches}
use Rattle.tile_queues.specs.declared.cell_bin.CellBin.{CellBin}

-- The writers of the tiles of a window, row by row. Each took those of the list's first k members that are its own, and
-- one more where the test holds.
pub record HasStored (test : Tile → Bool) (cells : List TableId) (list : PieceList) (window : TileSpan) (k : ℕ)
    (ws : List Writing) : Type 0 where
  pub whole : length ws ≡ tiles_in window
  pub each : (t : ℕ) (d : Writing) → IsInWindow list.size window t
      → let p = tile_place list.size t in
      StandsAt cells list (cond (test p) (k + 1) k) t (slice_index_or ws (number_in window p) d)

-- and none took one more
pub record AreWritersAt (cells : List TableId) (list : PieceList) (window : TileSpan) (k : ℕ)
    (bin : CellBin) : Type 0 where
  pub window_is : bin.window ≡ window
  pub whole : length bin.writers.items ≡ tiles_in window
  pub each : (t : ℕ) (d : Writing) → IsInWindow list.size window t
      → StandsAt cells list k t (slice_index_or bin.writers.items (number_in window (tile_place list.size t)) d)

-- what a keeper says of its tiles, where writers keep them and the cells lie beside
abbrev pub StandsInCells : CellBin → List TableId → PieceList → TileSpan → ℕ → Type 0
StandsInCells bin cells list window k = AreWritersAt cells list window k bin

-- the places of a span that stand before a row, or in it and before a column
abbrev pub is_passed : TileSpan → ℕ → ℕ → Tile → Bool
is_passed span row column p =
    has_tile (record span { end_row = row }) p || is_in_row (record span { end_column = column }) row p

-- of a window's tiles, the span has those that the piece's box meets
abbrev pub HasMet : Dimensions → TileSpan → TileSpan → Piece → Type 0
HasMet size window span x =
    (t : ℕ) → IsInWindow size window t → has_tile span (tile_place size t) ≡ meets (box_of x) (tile_rect_of size t)

-- the screen's tile at a number of a window, whose tiles are numbered row by row
abbrev pub tile_numbered : Dimensions → TileSpan → ℕ → ℕ
tile_numbered size window n =
    (window.first_row + n / columns_in window) * tile_columns_of size + (window.first_column + n % columns_in window)

-- member k of a list, in a form for the tiles of a row of the list's screen
pub record IsMemberForm (list : PieceList) (k row : ℕ) (form : PieceForm) : Type 0 where
  pub is : slice_index_or list.members k (piece_of_form form) ≡ piece_of_form form
  pub formed : IsFormOn list.size row form

-- the writer took those of the list's first k members that are its tile's
abbrev pub Stands : List TableId → PieceList → ℕ → Writing → Type 0
Stands cells list k w = StandsAt cells list k w.tile w

-- the bin's writers took the members of the batches that the task drew
abbrev pub HoldsBin : Tasking → CellBin → Type 0
HoldsBin t c = StandsAtBatches StandsInCells t.of.frame.cells t c

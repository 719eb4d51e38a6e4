-- Writers that stand at the first members of a frame's list, and readers beside them.
use Rattle.std.specs.Prelude.{◌≡◌, ℕ, ◌<◌, List, length, slice_index_or}
use Rattle.atomic_table.specs.Seated.{TableId}
use Rattle.cull_base.specs.Tiles.{PieceList, tile_list}
use Rattle.masked_update.specs.Canvas.{first_of}
use Rattle.tile_cells.specs.Cells.{Writing, Reading, IsAt}

-- how many of the first i members are in a tile's list
abbrev pub rank : ℕ → PieceList → ℕ → ℕ
rank tile list i = length (tile_list tile (first_of i list))

-- a writer of these cells and this list, of this tile, that took those of the first i members that are its tile's
pub record StandsAt (cells : List TableId) (list : PieceList) (i tile : ℕ) (w : Writing) : Type 0 where
  pub at : IsAt cells tile w.cell
  pub tile_is : w.tile ≡ tile
  pub list_is : w.list ≡ list
  pub count : w.count ≡ rank tile list i

-- the writers of these cells, in tile order, at the first i members
pub record AreStanding (cells : List TableId) (list : PieceList) (i : ℕ) (ws : List Writing) : Type 0 where
  pub whole : length ws ≡ length cells
  pub each : (t : ℕ) (d : Writing) → t < length cells → StandsAt cells list i t (slice_index_or ws t d)

-- a reader of these cells and this list
pub record IsReading (cells : List TableId) (list : PieceList) (r : Reading) : Type 0 where
  pub of : r.cells ≡ cells
  pub list_is : r.list ≡ list

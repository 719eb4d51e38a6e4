-- Cells that wait in slots, one for each tile, after they are opened.
use Rattle.std.specs.Prelude.{◌≡◌, ℕ, ◌<◌, List, Option, IfSome, length, slice_index_or}
use Rattle.crossbeam_utils.specs.Seq.{cell_view}
use Rattle.cull_base.specs.Tiles.{PieceList}
use Rattle.tile_cells.specs.declared.slots.Opened.{Opened}
use Rattle.tile_cells.specs.Rule.{writer}

-- the slot is empty, or has a cell and the pass of its one view: that of the tile's writer before the first member
abbrev pub IsOpened : PieceList → ℕ → Option Opened → Type 0
IsOpened list tile slot =
    IfSome slot (λ (o : Opened). (o.pass.table_id ≡ o.cell.table.shared.table_id)
    × (cell_view o.pass ≡ writer list tile 0 0))

-- each slot is so, for the tile of its place
abbrev pub AreAllOpened : PieceList → List (Option Opened) → Type 0
AreAllOpened list slots =
    (t : ℕ) (s : Option Opened) → t < length slots → IsOpened list t (slice_index_or slots t s)

-- Cells, writers, readers and notes as contracts see them. The cells are the list of their identities, one a tile.
use Rattle.std.specs.Prelude.{◌≡◌, ℕ, ◌+◌, ◌<◌, ◌≤◌, max, List, Some, length, slice_get, slice_index, slice_index_or, slice_set}
use Rattle.atomic_table.specs.Seated.{TableId}
use Rattle.cull_base.specs.Tiles.{PieceList}
use Rattle.masked_update.specs.TileOf.{TileOf, tile_at}
use Rattle.masked_update.specs.Taken.{standing_at}

-- the writer of a tile took `count` members of the tile's list, and heard that a reader had seen `heard` of them
pub record Writing : Type 0 where
  pub cell : TableId
  pub list : PieceList
  pub tile : ℕ
  pub count : ℕ
  pub heard : ℕ

-- how many members of each tile's list a reader has seen, and how often it read the tile
pub record Reading : Type 0 where
  pub cells : List TableId
  pub list : PieceList
  pub seen : List ℕ
  pub loads : List ℕ

pub record Noted : Type 0 where
  pub cell : TableId
  pub list : PieceList
  pub tile : ℕ
  pub count : ℕ

-- the writer of a cell and a tile, before the first member of a list
abbrev pub first_at : TableId → PieceList → ℕ → Writing
first_at cell list tile = record { cell = cell; list = list; tile = tile; count = 0; heard = 0 }

-- what a writer tells
abbrev pub note_of : Writing → Noted
note_of w = record { cell = w.cell; list = w.list; tile = w.tile; count = w.count }

-- a reader that learnt of a note: what it has seen of the tile is the greater of both
abbrev pub learnt : Reading → Noted → Reading
learnt r n = record r { seen = slice_set r.seen n.tile (max (slice_index r.seen n.tile) n.count) }

-- a reader that read a tile once, and has seen k members of its list
abbrev pub having_read : Reading → ℕ → ℕ → Reading
having_read r tile k =
    record r { seen = slice_set r.seen tile k; loads = slice_set r.loads tile (slice_index r.loads tile + 1) }

-- what has this identity is of these cells, at this tile
abbrev pub IsAt : List TableId → ℕ → TableId → Type 0
IsAt cells tile id = slice_get cells tile ≡ Some id

-- the writers of the first n of these cells in tile order, before the first member of this list
pub record AreFresh (cells : List TableId) (list : PieceList) (n : ℕ) (ws : List Writing) : Type 0 where
  pub whole : length ws ≡ n
  pub at : (t : ℕ) (d : Writing) → t < n → IsAt cells t (slice_index_or ws t d).cell
  pub fresh : (t : ℕ) (d : Writing) → t < n
      → slice_index_or ws t d ≡ first_at (slice_index_or ws t d).cell list t

-- a reader of these cells and this list that has seen nothing
pub record IsNew (cells : List TableId) (list : PieceList) (r : Reading) : Type 0 where
  pub of : r.cells ≡ cells
  pub list_is : r.list ≡ list
  pub whole : length r.seen ≡ length cells
  pub unseen : (t : ℕ) → t < length cells → slice_index r.seen t ≡ 0
  pub unread : (t : ℕ) → t < length cells → slice_index r.loads t ≡ 0

-- the writers of these cells, in tile order
pub record AreWriters (cells : List TableId) (ws : List Writing) : Type 0 where
  pub whole : length ws ≡ length cells
  pub at : (t : ℕ) (d : Writing) → t < length cells → IsAt cells t (slice_index_or ws t d).cell
  pub tile : (t : ℕ) (d : Writing) → t < length cells → (slice_index_or ws t d).tile ≡ t

-- a reader of these cells, of the list that the writers are of
pub record IsReaderOf (cells : List TableId) (ws : List Writing) (r : Reading) : Type 0 where
  pub of : r.cells ≡ cells
  pub list_is : (t : ℕ) (d : Writing) → t < length cells → (slice_index_or ws t d).list ≡ r.list

-- no count is below what was seen of the tile, for the first n tiles
abbrev pub CoversSeen : ℕ → List Writing → Reading → Type 0
CoversSeen n ws r = (t : ℕ) (d : Writing) → t < n → slice_index r.seen t ≤ (slice_index_or ws t d).count

-- of the first n tiles: each state is that after its writer's count
abbrev pub AreClosed : ℕ → List Writing → List TileOf → Type 0
AreClosed n ws states = (t : ℕ) (d : Writing) → t < n
    → tile_at states t ≡ standing_at t (slice_index_or ws t d).count (slice_index_or ws t d).list

-- What a snapshot holds, and how a reader takes it.
use Rattle.std.specs.Prelude.{◌≡◌, ℕ, ◌+◌, ◌<◌, ◌≤◌, List, Bool, true, false, nat_lt, ◌&&◌, length, slice_index}
use Rattle.cull_base.specs.Rectangle.{meets}
use Rattle.cull_base.specs.Screen.{Dimensions, tile_columns_of, tile_count_of, tile_place, tile_rect_of}
use Rattle.cull_base.specs.Span.{has_tile}
use Rattle.cull_base.specs.Tiles.{tile_list}
use Rattle.cull_base.specs.declared.rect.Rect.{Rect}
use Rattle.cull_base.specs.declared.tile_span.TileSpan.{TileSpan}
use Rattle.masked_update.specs.Grid.{is_in_rows}
use Rattle.masked_update.specs.TileOf.{TileOf, tile_at}
use Rattle.masked_update.specs.Taken.{standing_at}
use Rattle.tile_cells.specs.Cells.{Reading}

-- a slot for each tile of the screen, of which those of a span are held
pub record SnapshotOf : Type 0 where
  pub size : Dimensions
  pub span : TileSpan
  pub tiles : List TileOf

abbrev pub is_held : SnapshotOf → ℕ → Bool
is_held s t = nat_lt t (tile_count_of s.size) && has_tile s.span (tile_place s.size t)

-- the tile stands in a row, in the columns of a span
abbrev pub is_in_row : Dimensions → TileSpan → ℕ → ℕ → Bool
is_in_row size span row t = is_in_rows (tile_columns_of size) row (row + 1) span.first_column span.end_column t

-- it holds exactly the tiles whose rectangle meets the area
abbrev pub HoldsExactly : SnapshotOf → Rect → Type 0
HoldsExactly s area = (t : ℕ) → t < tile_count_of s.size → is_held s t ≡ meets area (tile_rect_of s.size t)

-- The tile was read once. What is seen of it is no less than before, and there are so many members. The slot has the
-- tile after exactly those, which is its count too.
pub record ReadOnce (t : ℕ) (old new : Reading) (s : SnapshotOf) : Type 0 where
  pub loads : slice_index new.loads t ≡ slice_index old.loads t + 1
  pub rises : slice_index old.seen t ≤ slice_index new.seen t
  pub within : slice_index new.seen t ≤ length (tile_list t old.list)
  pub state : tile_at s.tiles t ≡ standing_at t (slice_index new.seen t) old.list

-- the tile was not read
pub record Unread (t : ℕ) (old new : Reading) (was s : SnapshotOf) : Type 0 where
  pub loads : slice_index new.loads t ≡ slice_index old.loads t
  pub seen : slice_index new.seen t ≡ slice_index old.seen t
  pub state : tile_at s.tiles t ≡ tile_at was.tiles t

abbrev pub ReadIf : Bool → ℕ → Reading → Reading → SnapshotOf → SnapshotOf → Type 0
ReadIf true t old new was s = ReadOnce t old new s
ReadIf false t old new was s = Unread t old new was s

-- the tiles for which a test holds were read once, each into its slot, and the others were not read
pub record ReadWhere (test : ℕ → Bool) (old new : Reading) (was s : SnapshotOf) : Type 0 where
  pub cells : new.cells ≡ old.cells
  pub list : new.list ≡ old.list
  pub size : s.size ≡ was.size
  pub each : (t : ℕ) → t < tile_count_of was.size → ReadIf (test t) t old new was s

-- the tiles whose rectangle meets the area were read once
abbrev pub ReadMet : Rect → Reading → Reading → SnapshotOf → SnapshotOf → Type 0
ReadMet area old new was s = ReadWhere (λ t. meets area (tile_rect_of was.size t)) old new was s

-- How writers come to bins' tasks, and how they are handed back.
use Rattle.std.specs.Prelude.{◌≡◌, ◌⊎◌, ℕ, ◌<◌, ◌≤◌, List, Some, length, map, slice_index_or, MatchOption}
use Rattle.std.specs.declared.option.Option.{Option}
use Rattle.atomic_table.specs.Seated.{TableId}
use Rattle.binning.specs.Bins.{bin_of, bin_span_of}
use Rattle.binning.specs.Cut.{bin_count_of}
use Rattle.cull_base.specs.Screen.{tile_count_of, tile_place}
use Rattle.cull_base.specs.Span.{number_in}
use Rattle.cull_base.specs.Tiles.{PieceList}
use Rattle.tile_cells.specs.Cells.{Writing, first_at}
use Rattle.tile_cells.specs.Standing.{StandsAt}
use Rattle.bin_queues.specs.QueueParts.{BatchedFrame, IsBatched, places_before}
use Rattle.bin_queues.specs.Tasks.{QueuesOf, Tasking, IsTaskOf}

-- the cells of writers
abbrev pub cells_of : List Writing → List TableId
cells_of ws = map (λ (w : Writing). w.cell) ws

-- the writers of all tiles in tile order, before the first member of this list
pub record AreFirst (list : PieceList) (ws : List Writing) : Type 0 where
  pub whole : length ws ≡ tile_count_of list.size
  pub each : (t : ℕ) (d : Writing) → t < length ws → slice_index_or ws t d ≡ first_at (slice_index_or ws t d).cell list t

-- a slot has the writer of its tile, at the list's first k members
abbrev pub IsSlotAt : BatchedFrame → ℕ → ℕ → Option Writing → Type 0
IsSlotAt frame k t o = MatchOption o ⊥ (λ w. StandsAt frame.cells frame.list k t w)

-- which took nothing
abbrev pub IsFull : BatchedFrame → ℕ → Option Writing → Type 0
IsFull frame t o = IsSlotAt frame 0 t o

-- so have the slots of all tiles
abbrev pub AreSlotsAt : BatchedFrame → ℕ → List (Option Writing) → Type 0
AreSlotsAt frame k slots =
    (t : ℕ) (d : Option Writing) → t < tile_count_of frame.list.size → IsSlotAt frame k t (slice_index_or slots t d)

-- the slots of the tiles of a bin from a number on, and of all bins behind it, are full
abbrev pub AreLeft : BatchedFrame → ℕ → ℕ → List (Option Writing) → Type 0
AreLeft frame bin n slots =
    (t : ℕ) (d : Option Writing) → t < tile_count_of frame.list.size
    → let b = bin_of frame.list.size frame.cut t in
    (bin < b) ⊎ ((b ≡ bin) × (n ≤ number_in (bin_span_of frame.list.size frame.cut bin) (tile_place frame.list.size t)))
    → IsFull frame t (slice_index_or slots t d)

-- tasks of one frame and of these queues, one of each bin, in any order
pub record AreTasksOf (queues : QueuesOf) (frame : BatchedFrame) (tasks : List Tasking) : Type 0 where
  pub count : length tasks ≡ bin_count_of frame.cut
  pub of : (i : ℕ) (d : Tasking) → i < length tasks → IsTaskOf queues (slice_index_or tasks i d)
  pub frame_is : (i : ℕ) (d : Tasking) → i < length tasks → (slice_index_or tasks i d).of.frame ≡ frame
  pub all : (b : ℕ) → b < bin_count_of frame.cut
      → (i : ℕ) × (i < length tasks) × ((d : Tasking) → (slice_index_or tasks i d).of.bin ≡ b)

-- the writer of a tile comes from the task of the tile's bin, and took the tile's members of the batches that it drew
abbrev pub IsHandedBack : BatchedFrame → List Tasking → ℕ → Writing → Type 0
IsHandedBack frame tasks t w =
    (i : ℕ) × (i < length tasks) × ((d : Tasking) →
    let task = slice_index_or tasks i d in
    (task.of.bin ≡ bin_of frame.list.size frame.cut t)
    × StandsAt frame.cells frame.list (places_before frame task.batches) t w)

-- the writers of all tiles, in tile order
pub record AreHandedBack (frame : BatchedFrame) (tasks : List Tasking) (ws : List Writing) : Type 0 where
  pub whole : length ws ≡ tile_count_of frame.list.size
  pub each : (t : ℕ) (d : Writing) → t < tile_count_of frame.list.size
      → IsHandedBack frame tasks t (slice_index_or ws t d)

-- a slot has one of the first n writers, and it is of this tile
abbrev pub IsPut : List Writing → ℕ → ℕ → Option Writing → Type 0
IsPut ws n t o =
    (m : ℕ) × (m < n) × ((d : Writing) → (o ≡ Some (slice_index_or ws m d)) × ((slice_index_or ws m d).tile ≡ t))

-- the first n writers were put into the slots of their tiles, and the other slots stayed
pub record ArePut (ws : List Writing) (n : ℕ) (old new : List (Option Writing)) : Type 0 where
  pub whole : length new ≡ length old
  pub kept : (t : ℕ) (d : Option Writing) → t < length old
      → (slice_index_or new t d ≡ slice_index_or old t d) ⊎ IsPut ws n t (slice_index_or new t d)
  pub put : (m : ℕ) (e : Writing) (d : Option Writing) → m < n
      → let t = (slice_index_or ws m e).tile in IsPut ws n t (slice_index_or new t d)

-- tasks of the bins of one frame
pub record AreBinsOf (frame : BatchedFrame) (tasks : List Tasking) : Type 0 where
  pub batched : IsBatched frame
  pub frame_is : (i : ℕ) (d : Tasking) → i < length tasks → (slice_index_or tasks i d).of.frame ≡ frame

-- a slot has the writer that is handed back to its tile
abbrev pub IsBack : BatchedFrame → List Tasking → ℕ → Option Writing → Type 0
IsBack frame tasks t o = MatchOption o ⊥ (IsHandedBack frame tasks t)

-- the writers of the first n tasks' bins were put into the slots of their tiles, and the other slots stayed
pub record ArePutBack (frame : BatchedFrame) (tasks : List Tasking) (n : ℕ) (old new : List (Option Writing))
    : Type 0 where
  pub kept : (t : ℕ) (d : Option Writing) → t < tile_count_of frame.list.size
      → (slice_index_or new t d ≡ slice_index_or old t d) ⊎ IsBack frame tasks t (slice_index_or new t d)
  pub back : (t : ℕ) (d : Option Writing) (i : ℕ) → t < tile_count_of frame.list.size → i < n
      → ((e : Tasking) → (slice_index_or tasks i e).of.bin ≡ bin_of frame.list.size frame.cut t)
      → IsBack frame tasks t (slice_index_or new t d)

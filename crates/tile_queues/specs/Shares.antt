-- The tasks of a frame's bins, and the workers to which they are dealt.
use Rattle.std.specs.Prelude.{◌≡◌, ℕ, ◌+◌, ◌-◌, ◌*◌, ◌/◌, ◌<◌, ◌++◌, List, [], ◌∷◌, All, length, slice_index_or}
use Rattle.binning.specs.Cut.{bin_count_of}
use Rattle.bin_queues.specs.Frames.{over}
use Rattle.bin_queues.specs.QueueParts.{BatchedFrame, batches_in, bin_of_frame}
use Rattle.bin_queues.specs.Tasks.{IsTaskOf, QueuesOf, Tasking, first_task}
use Rattle.bin_tasks.specs.declared.drawing.Drawing.{Drawing}
use Rattle.tile_queues.specs.Owners.{AreTasksOf}
use Rattle.tile_queues.specs.declared.cell_bin.InCells.{InCells}
use Rattle.tile_queues.specs.declared.share.Share.{Share}

-- the frame that is drawn, over the cells that lie beside
abbrev pub frame_over : {R G : Type 0} → Drawing R (InCells R) G → BatchedFrame
frame_over {R} {G} d = over d.frame d.beside.now.cells.now

-- the task of a bin of a frame and of these queues
pub record IsTaskOver (queues : QueuesOf) (frame : BatchedFrame) (t : Tasking) : Type 0 where
  pub of : IsTaskOf queues t
  pub frame_is : t.of.frame ≡ frame

-- the task of a bin of the frame that is drawn
abbrev pub MayDraw : {R G : Type 0} → Drawing R (InCells R) G → Tasking → Type 0
MayDraw {R} {G} d t = IsTaskOver d.queues.now (frame_over d) t

-- the tasks of a frame and of these queues, one of each bin in any order, all of which drew all batches
pub record AreWhole (queues : QueuesOf) (frame : BatchedFrame) (tasks : List Tasking) : Type 0 where
  pub tasks_are : AreTasksOf queues frame tasks
  pub drawn : All (λ t. t.batches ≡ batches_in frame) tasks

-- how many bins a worker owns, of so many: bin b is that of worker b mod workers
abbrev pub bins_owned : ℕ → ℕ → ℕ → ℕ
bins_owned bins workers worker = (bins + workers - 1 - worker) / workers

-- of so many bins a worker has those that are its own: its task j is that of bin j * workers + worker. What holds of the
-- task of a bin is given.
pub record IsShare (P : ℕ → Tasking → Type 0) (workers bins worker : ℕ) (tasks : List Tasking) : Type 0 where
  pub count : length tasks ≡ bins_owned bins workers worker
  pub each : (j : ℕ) (t : Tasking) → j < length tasks → P (j * workers + worker) (slice_index_or tasks j t)

-- each of some tasks changed so
pub record AreChanged (R : Tasking → Tasking → Type 0) (old new : List Tasking) : Type 0 where
  pub count : length new ≡ length old
  pub each : (j : ℕ) (t : Tasking) → j < length old → R (slice_index_or old j t) (slice_index_or new j t)

-- each task of each worker is so
abbrev pub AreAllIn : (Tasking → Type 0) → List Share → Type 0
AreAllIn P shares = (w : ℕ) (s : Share) → w < length shares → All P (slice_index_or shares w s).tasks.items

-- each task of each worker changed so
pub record AreChangedIn (R : Tasking → Tasking → Type 0) (old new : List Share) : Type 0 where
  pub count : length new ≡ length old
  pub each : (w : ℕ) (s : Share) → w < length old
      → AreChanged R (slice_index_or old w s).tasks.items (slice_index_or new w s).tasks.items

-- the tasks of the first bins, of so many, are dealt to so many workers, of which there is one
pub record AreDealt (P : ℕ → Tasking → Type 0) (workers bins : ℕ) (shares : List Share) : Type 0 where
  pub some : 0 < workers
  pub count : length shares ≡ workers
  pub each : (w : ℕ) (s : Share) → w < length shares → IsShare P workers bins w (slice_index_or shares w s).tasks.items

-- so many workers with no task
pub record AreIdle (workers : ℕ) (shares : List Share) : Type 0 where
  pub count : length shares ≡ workers
  pub none : (w : ℕ) (s : Share) → w < length shares → (slice_index_or shares w s).tasks.items ≡ []

-- the task of the bin with this number
pub record IsTaskAt (queues : QueuesOf) (frame : BatchedFrame) (bin : ℕ) (t : Tasking) : Type 0 where
  pub queues_are : IsTaskOf queues t
  pub of_is : t.of ≡ bin_of_frame frame bin

-- before the first batch
pub record IsFirstAt (queues : QueuesOf) (frame : BatchedFrame) (bin : ℕ) (t : Tasking) : Type 0 where
  pub queues_are : IsTaskOf queues t
  pub first : t ≡ first_task t.queue t.number (bin_of_frame frame bin)

-- which drew all batches
pub record IsDrawnAt (queues : QueuesOf) (frame : BatchedFrame) (bin : ℕ) (t : Tasking) : Type 0 where
  pub at : IsTaskAt queues frame bin t
  pub whole : t.batches ≡ batches_in frame

-- all tasks of a frame are dealt
abbrev pub AreShares : QueuesOf → BatchedFrame → ℕ → List Share → Type 0
AreShares queues frame workers shares = AreDealt (IsTaskAt queues frame) workers (bin_count_of frame.cut) shares

-- before the first batch
abbrev pub AreFirstShares : QueuesOf → BatchedFrame → ℕ → List Share → Type 0
AreFirstShares queues frame workers shares = AreDealt (IsFirstAt queues frame) workers (bin_count_of frame.cut) shares

-- and drew all batches
abbrev pub AreDrained : QueuesOf → BatchedFrame → ℕ → List Share → Type 0
AreDrained queues frame workers shares = AreDealt (IsDrawnAt queues frame) workers (bin_count_of frame.cut) shares

-- a worker was given one task more, behind its own
pub record IsGiven (worker : ℕ) (task : Tasking) (old new : List Share) : Type 0 where
  pub whole : length new ≡ length old
  pub here : (s : Share)
      → (slice_index_or new worker s).tasks.items ≡ (slice_index_or old worker s).tasks.items ++ (task ∷ [])
  pub others : (w : ℕ) (s : Share) → (w ≡ worker → ⊥) → slice_index_or new w s ≡ slice_index_or old w s

-- The task of a bin as it drains the bin's queue, and what the bin's tiles took then.
use Rattle.std.specs.Prelude.{◌≡◌, ℕ, ◌<◌, ◌≤◌, List}
use Rattle.atomic_table.specs.Seated.{TableId}
use Rattle.cull_base.specs.Tiles.{PieceList}
use Rattle.cull_base.specs.declared.tile_span.TileSpan.{TileSpan}
use Rattle.bin_queues.specs.Frames.{over}
use Rattle.bin_queues.specs.QueueParts.{BatchedFrame, batches_in, places_before}
use Rattle.bin_queues.specs.Tasks.{GoesOn, IsTaskOf, QueuesOf, Tasking}
use Rattle.bin_tiles.specs.Bins.{IsBinAt}
use Rattle.bin_tasks.specs.declared.drawing.Drawing.{Drawing}
use Rattle.bin_tasks.specs.declared.task.Task.{Task}
use Rattle.bin_tasks.specs.declared.task.Drained.{Drained}
use Rattle.bin_tasks.specs.declared.task.Drained.TheVariants.{Whole, Empty}

-- the task found no part, looked, and heard of no more batches than it drew
pub record IsIdle (old new : Tasking) : Type 0 where
  pub short : new.batches < batches_in new.of.frame
  pub looked : old.looks < new.looks
  pub heard : new.heard ≤ new.batches
  pub told : new.told ≤ new.batches

-- Whole: all batches are drawn. Empty: more are to come.
abbrev pub IsAnswer : Drained → Tasking → Tasking → Type 0
IsAnswer Whole old new = new.batches ≡ batches_in new.of.frame
IsAnswer Empty old new = IsIdle old new

-- the keeper's tiles took the members of the batches that the task drew
abbrev pub StandsAtBatches : {X B : Type 0} → (X → B → PieceList → TileSpan → ℕ → Type 0) → B → Tasking → X → Type 0
StandsAtBatches {X} {B} stands beside t c =
    IsBinAt stands beside t.of.frame.list t.of.frame.cut (places_before t.of.frame t.batches) t.of.bin c

-- the task of a bin of this frame and of these queues, whose tiles took the members of the batches that it drew
pub record IsTaskIn {X B : Type 0} (stands : X → B → PieceList → TileSpan → ℕ → Type 0) (beside : B)
    (queues : QueuesOf) (frame : BatchedFrame) (t : Task X) : Type 0 where
  pub frame_is : t.intake.of.frame ≡ frame
  pub queues_are : IsTaskOf queues t.intake
  pub at : StandsAtBatches stands beside t.intake t.keeper

-- the task of a bin of the frame that is drawn, over the cells that lie beside
abbrev pub MayDrain : {X R B G : Type 0} → (X → B → PieceList → TileSpan → ℕ → Type 0) → (B → List TableId)
    → Drawing R B G → Task X → Type 0
MayDrain {X} {R} {B} {G} stands cells d t =
    IsTaskIn stands d.beside.now d.queues.now (over d.frame (cells d.beside.now)) t

-- the task went on, and drew all batches where it was told of all
pub record HasDrained (old new : Tasking) : Type 0 where
  pub on : GoesOn old new
  pub whole : batches_in old.of.frame ≤ old.told → new.batches ≡ batches_in new.of.frame

-- the same task was told of so many batches
pub record WasTold (batches : ℕ) (old new : Tasking) : Type 0 where
  pub of : new.of ≡ old.of
  pub told : batches ≤ new.told

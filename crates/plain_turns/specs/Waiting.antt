-- The tasks of a frame's bins over plain tiles, each in the seat of its bin but while a worker has it.
use Rattle.std.specs.Prelude.{◌≡◌, ℕ, List, None, Some, length}
use Rattle.std.specs.declared.option.Option.{Option}
use Rattle.binning.specs.Cut.{bin_count_of}
use Rattle.cull_base.specs.Tiles.{PieceList}
use Rattle.cull_base.specs.declared.tile_span.TileSpan.{TileSpan}
use Rattle.masked_update.specs.Canvas.{CanvasOf}
use Rattle.seats.specs.Seats.{AreAllSeated}
use Rattle.seats.specs.declared.seats.Loan.{Loan}
use Rattle.bin_tiles.specs.Plain.{IsPlainAt, StandsPlain}
use Rattle.bin_queues.specs.QueueParts.{BatchedFrame}
use Rattle.bin_tasks.specs.Drains.{IsTaskIn}
use Rattle.bin_queues.specs.Tasks.{QueuesOf}
use Rattle.bin_tasks.specs.declared.task.Task.{Task}

-- the task of a bin of this frame, with the bin's plain tiles
abbrev pub IsPlainTask : QueuesOf → BatchedFrame → Task CanvasOf → Type 0
IsPlainTask queues frame t = IsTaskIn StandsPlain (tt {0}) queues frame t

-- tiles that stand so, or that aren't made yet where nothing is drawn
pub record StandsMade {B : Type 0} (c : Option CanvasOf) (beside : B) (list : PieceList) (window : TileSpan) (k : ℕ) : Type 0 where
  pub not_made : c ≡ None → k ≡ 0
  pub made : (d : CanvasOf) → c ≡ Some d → IsPlainAt list window k d

-- the task of a bin, with its tiles where they are made
abbrev pub MayBegin : QueuesOf → BatchedFrame → Task (Option CanvasOf) → Type 0
MayBegin queues frame t = IsTaskIn StandsMade (tt {0}) queues frame t

-- the same of the bin with this number
pub record IsWaitingTask (queues : QueuesOf) (frame : BatchedFrame) (bin : ℕ) (t : Task (Option CanvasOf)) : Type 0 where
  pub task : MayBegin queues frame t
  pub bin_is : t.intake.of.bin ≡ bin

-- the tasks of all bins, each in the seat of its bin
pub record AreWaiting (queues : QueuesOf) (frame : BatchedFrame) (slots : List (Option (Loan (Task (Option CanvasOf)))))
    : Type 0 where
  pub count : length slots ≡ bin_count_of frame.cut
  pub seated : AreAllSeated (IsWaitingTask queues frame) slots

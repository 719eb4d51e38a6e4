-- The queues of a frame's bins, their submitter and the bins' tasks as contracts see them.
use Rattle.std.specs.Prelude.{◌≡◌, ℕ, ◌+◌, ◌<◌, ◌≤◌, List, Some, length, slice_get, slice_index_or}
use Rattle.atomic_table.specs.Seated.{TableId}
use Rattle.binning.specs.Cut.{bin_count_of}
use Rattle.bin_queues.specs.QueueParts.{BatchedFrame, BinOfFrame, batches_in, bin_of_frame, taken_before}

-- the identity at a place
abbrev pub IsAt : List TableId → ℕ → TableId → Type 0
IsAt ids place id = slice_get ids place ≡ Some id

-- the queues of all bins in order, each with room for so many parts, and the published number
pub record QueuesOf : Type 0 where
  pub queues : List TableId
  pub number : TableId
  pub room : ℕ

-- the submitter of these queues submitted so many batches
pub record Submitting : Type 0 where
  pub queues : List TableId
  pub number : TableId
  pub frame : BatchedFrame
  pub batches : ℕ

-- The task of a bin drew the parts of the first batches, and took so many members with them. It was told that so many
-- batches were submitted, heard of so many when it looked last, and looked so often.
pub record Tasking : Type 0 where
  pub queue : TableId
  pub number : TableId
  pub of : BinOfFrame
  pub batches : ℕ
  pub taken : ℕ
  pub told : ℕ
  pub heard : ℕ
  pub looks : ℕ

-- the bin's task before the first batch
abbrev pub first_task : TableId → TableId → BinOfFrame → Tasking
first_task queue number of =
    record { queue = queue; number = number; of = of; batches = 0; taken = 0; told = 0; heard = 0; looks = 0 }

-- a task that drew one part more
abbrev pub after_part : Tasking → Tasking
after_part t = record t { batches = t.batches + 1; taken = taken_before t.of (t.batches + 1) }

-- a task that looked once more, and heard of so many batches
abbrev pub after_look : Tasking → ℕ → Tasking
after_look t heard = record t { heard = heard; looks = t.looks + 1 }

-- the submitter is of these queues, and they have room for all its batches
pub record IsSubmitterOf (queues : QueuesOf) (s : Submitting) : Type 0 where
  pub queues_are : s.queues ≡ queues.queues
  pub number : s.number ≡ queues.number
  pub room : batches_in s.frame ≤ queues.room

-- the task is of these queues
pub record IsTaskOf (queues : QueuesOf) (t : Tasking) : Type 0 where
  pub queue : IsAt queues.queues t.of.bin t.queue
  pub number : t.number ≡ queues.number

-- the task of the same bin, queues and cells, which was told as much, drew no less and looked no less
pub record GoesOn (old new : Tasking) : Type 0 where
  pub queue : new.queue ≡ old.queue
  pub number : new.number ≡ old.number
  pub of : new.of ≡ old.of
  pub told : new.told ≡ old.told
  pub batches : old.batches ≤ new.batches
  pub looks : old.looks ≤ new.looks

-- the tasks of all bins of a frame in order, before the first batch
pub record AreFirstTasks (queues : QueuesOf) (frame : BatchedFrame) (tasks : List Tasking) : Type 0 where
  pub count : length tasks ≡ bin_count_of frame.cut
  pub of : (b : ℕ) (d : Tasking) → b < length tasks → IsTaskOf queues (slice_index_or tasks b d)
  pub first : (b : ℕ) (d : Tasking) → b < length tasks
      → let t = slice_index_or tasks b d in t ≡ first_task t.queue t.number (bin_of_frame frame b)

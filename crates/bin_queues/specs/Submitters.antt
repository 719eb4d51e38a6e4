-- How passes stand for a submitter.
use Rattle.std.specs.Prelude.{◌≡◌, ℕ, ◌+◌, ◌<◌, ◌≤◌, List, [], ◌∷◌, map, length, slice_index_or}
use Rattle.atomic_table.specs.Seated.{TableId}
use Rattle.crossbeam_queue.specs.Passes.{view}
use Rattle.crossbeam_utils.specs.Seq.{cell_view}
use Rattle.binning.specs.Cut.{bin_count_of}
use Rattle.bin_queues.specs.NumberRule.{publisher}
use Rattle.bin_queues.specs.QueueParts.{BatchedFrame, IsBatched, batches_in, bin_of_frame}
use Rattle.bin_queues.specs.QueueRule.{no_bin, submitter}
use Rattle.bin_queues.specs.Intakes.{QueueToken, NumberToken}
use Rattle.bin_queues.specs.Tasks.{IsAt, Submitting, Tasking, first_task}

abbrev pub queues_of : List QueueToken → List TableId
queues_of ps = map (λ (p : QueueToken). p.table_id) ps

abbrev pub frame_of : List QueueToken → BatchedFrame
frame_of [] = no_bin.frame
frame_of (p ∷ ps) = (view p).of.frame

-- what contracts see of a submitter's passes
abbrev pub submitting : List QueueToken → NumberToken → Submitting
submitting ps n =
    record { queues = queues_of ps; number = n.table_id; frame = frame_of ps; batches = (cell_view n).number }

-- the submitter's passes of the queues of all bins: to the first n bins k + 1 parts were pushed, and to the others k
pub record HavePushed (frame : BatchedFrame) (k n : ℕ) (ps : List QueueToken) : Type 0 where
  pub count : length ps ≡ bin_count_of frame.cut
  pub more : (b : ℕ) (d : QueueToken) → b < length ps → b < n
      → view (slice_index_or ps b d) ≡ submitter (bin_of_frame frame b) (k + 1)
  pub left : (b : ℕ) (d : QueueToken) → b < length ps → n ≤ b
      → view (slice_index_or ps b d) ≡ submitter (bin_of_frame frame b) k
  pub free : (b : ℕ) (d : QueueToken) → b < length ps → (slice_index_or ps b d).me.1 ≡ []

-- the passes are those of a submitter
pub record AreSubmitting (batches : ℕ) (ps : List QueueToken) (n : NumberToken) : Type 0 where
  pub batched : IsBatched (frame_of ps)
  pub pushed : HavePushed (frame_of ps) batches 0 ps
  pub published : cell_view n ≡ publisher batches
  pub within : batches ≤ batches_in (frame_of ps)

-- the queues of the first n bins with these identities, with the submitter's passes and what the tasks take in, before
-- the first batch
pub record AreOpenedTo (frame : BatchedFrame) (number : TableId) (n : ℕ) (ids : List TableId) (ps : List QueueToken)
    (ts : List Tasking) : Type 0 where
  pub queues : queues_of ps ≡ ids
  pub count : length ps ≡ n
  pub pushed : (b : ℕ) (d : QueueToken) → b < n → view (slice_index_or ps b d) ≡ submitter (bin_of_frame frame b) 0
  pub free : (b : ℕ) (d : QueueToken) → b < n → (slice_index_or ps b d).me.1 ≡ []
  pub tasks : length ts ≡ n
  pub own : (b : ℕ) (d : Tasking) → b < n → IsAt ids b (slice_index_or ts b d).queue
  pub first : (b : ℕ) (d : Tasking) → b < n
      → let t = slice_index_or ts b d in t ≡ first_task t.queue number (bin_of_frame frame b)

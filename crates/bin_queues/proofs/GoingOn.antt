-- Tasks and submitters that go on are of the same queues.
use Rattle.std.proofs.Common.{◌≡◌, ℕ, ◌<◌, List, Some, length, ap, ◌∙◌, sym, subst}
use Rattle.std.specs.Prelude.{slice_get, slice_index_or}
use Rattle.atomic_table.specs.Seated.{TableId}
use Rattle.bin_queues.specs.QueueParts.{BatchedFrame, BinOfFrame, bin_of_frame}
use Rattle.bin_queues.specs.Tasks.{AreFirstTasks, GoesOn, IsSubmitterOf, IsTaskOf, QueuesOf, Submitting, Tasking, first_task}

-- the same task of the same queues
pub task_of : (queues : QueuesOf) (t t' : Tasking) → t'.queue ≡ t.queue → t'.number ≡ t.number → t'.of ≡ t.of → IsTaskOf queues t → IsTaskOf queues t'
task_of queues t t' queue number of at = record {
  queue = ap (λ (b : BinOfFrame). slice_get queues.queues b.bin) of ∙ at.queue ∙ ap (λ (q : TableId). Some q) (sym queue);
  number = number ∙ at.number;
}

pub still_of : (queues : QueuesOf) (t t' : Tasking) → GoesOn t t' → IsTaskOf queues t → IsTaskOf queues t'
still_of queues t t' on at = task_of queues t t' on.queue on.number on.of at

-- a submitter that submitted more is of the same queues
pub submitter_on : (queues : QueuesOf) (s s' : Submitting) (n : ℕ) → s' ≡ record s { batches = n } → IsSubmitterOf queues s → IsSubmitterOf queues s'
submitter_on queues s s' n is at = subst (IsSubmitterOf queues) (sym is) (record { queues_are = at.queues_are; number = at.number; room = at.room })

-- the task whose turn it is
pub first_task_at : (queues : QueuesOf) (frame : BatchedFrame) (tasks : List Tasking) (bin : ℕ) (t : Tasking) → t ≡ slice_index_or tasks bin t → bin < length tasks → AreFirstTasks queues frame tasks
    → IsTaskOf queues t × (t ≡ first_task t.queue t.number (bin_of_frame frame bin))
first_task_at queues frame tasks bin t is lt first =
    subst (λ (k : Tasking). IsTaskOf queues k × (k ≡ first_task k.queue k.number (bin_of_frame frame bin))) (sym is) (first.of bin t lt, first.first bin t lt)

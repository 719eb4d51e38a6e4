use Rattle.std.proofs.Common.{◌≡◌}
use Rattle.std.specs.Vec.Iter.{into_iter_items, into_iter_len}
use Rattle.cull_base.proofs.Lists.{GoesOver}
use Rattle.bin_queues.specs.Tasks.{IsSubmitterOf}
use Rattle.steal_pool.proofs.submitting.submit_slots.Given as goal

abbrev pub invariant-loop-slot : goal.invariant-loop-slot
invariant-loop-slot g l =
    GoesOver ((goal.iterator-loop-slot g).can_next l.slot-iterator) ((goal.iterator-loop-slot g).is_finite l.slot-iterator)
    l.fn.slots.items l.done (into_iter_items l.slot-iterator) (into_iter_len l.slot-iterator)
    (l.submitter ≡ record l.initial.submitter { batches = l.done })
    (IsSubmitterOf l.queues l.submitter)

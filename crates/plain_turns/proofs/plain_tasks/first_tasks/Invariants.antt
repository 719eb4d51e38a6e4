use Rattle.std.proofs.Common.{◌≤◌, [], length, vec_capacity}
use Rattle.std.specs.Vec.Iter.{into_iter_items, into_iter_len}
use Rattle.cull_base.proofs.Lists.{GoesOver}
use Rattle.seats.proofs.First.{AreFirst}
use Rattle.bin_queues.specs.Frames.{over}
use Rattle.plain_turns.specs.Waiting.{IsWaitingTask}
use Rattle.plain_turns.proofs.plain_tasks.first_tasks.Given as goal

abbrev pub invariant-loop-intake : goal.invariant-loop-intake
invariant-loop-intake l =
    GoesOver ((goal.iterator-loop-intake).can_next l.intake-iterator) ((goal.iterator-loop-intake).is_finite l.intake-iterator)
    l.fn.intakes.items (length l.slots.items) (into_iter_items l.intake-iterator) (into_iter_len l.intake-iterator)
    (AreFirst (IsWaitingTask l._queues (over l.frame [])) l.slots.items)
    (l.count ≤ vec_capacity l.slots)

use Rattle.std.proofs.Common.{◌≡◌, ◌≤◌, Some, take, map, length, vec_capacity}
use Rattle.std.specs.Vec.Iter.{into_iter_items, into_iter_len}
use Rattle.cull_base.proofs.Lists.{GoesOver}
use Rattle.tile_queues.proofs.tile_slots.into_slots.Given as goal

abbrev pub invariant-loop-writer : goal.invariant-loop-writer
invariant-loop-writer l =
    GoesOver ((goal.iterator-loop-writer).can_next l.writer-iterator) ((goal.iterator-loop-writer).is_finite l.writer-iterator)
    l.fn.writers.items (length l.slots.items) (into_iter_items l.writer-iterator) (into_iter_len l.writer-iterator)
    (l.slots.items ≡ map (λ w. Some w) (take (length l.slots.items) l.fn.writers.items))
    (length l.fn.writers.items ≤ vec_capacity l.slots)

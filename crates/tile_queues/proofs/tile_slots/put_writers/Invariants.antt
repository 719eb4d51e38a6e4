use Rattle.std.proofs.Common.{◌≡◌, ◌+◌, drop, length}
use Rattle.std.specs.Vec.Iter.{into_iter_items, into_iter_len}
use Rattle.tile_queues.specs.Owners.{ArePut}
use Rattle.tile_queues.proofs.tile_slots.put_writers.Given as goal

abbrev pub invariant-loop-writer : goal.invariant-loop-writer
invariant-loop-writer l =
    (goal.iterator-loop-writer).can_next l.writer-iterator ×
    (goal.iterator-loop-writer).is_finite l.writer-iterator ×
    (into_iter_items l.writer-iterator ≡ drop l.done l.fn.writers.items) ×
    (l.done + into_iter_len l.writer-iterator ≡ length l.fn.writers.items) ×
    ArePut l.fn.writers.items l.done l.fn.slots l.slots

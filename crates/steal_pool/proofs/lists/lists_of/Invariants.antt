use Rattle.std.proofs.Common.{◌≡◌, ◌≤◌, drop, length, vec_items, vec_capacity}
use Rattle.std.specs.Vec.Iter.{into_iter_items, into_iter_len}
use Rattle.cull_base.proofs.Lists.{GoesOver}
use Rattle.steal_pool.specs.Lists.{AreListed}
use Rattle.steal_pool.specs.Pools.{call_of}
use Rattle.steal_pool.proofs.lists.lists_of.Given as goal

abbrev pub invariant-loop-seat : goal.invariant-loop-seat
invariant-loop-seat g l =
    GoesOver ((goal.iterator-loop-seat g).can_next l.seat-iterator) ((goal.iterator-loop-seat g).is_finite l.seat-iterator)
    l.fn.seats.items l.done (into_iter_items l.seat-iterator) (into_iter_len l.seat-iterator)
    (length l.lists.items ≡ l.done)
    (AreListed vec_items (call_of l._pool) l.fn.seats.items (drop l.done l.fn.seats.items) l.lists.items × (length l.fn.seats.items ≤ vec_capacity l.lists))

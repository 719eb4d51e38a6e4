use Rattle.std.proofs.Common.{◌≡◌, drop, length}
use Rattle.std.specs.Vec.Iter.{into_iter_items, into_iter_len}
use Rattle.cull_base.proofs.Lists.{GoesOver}
use Rattle.steal_pool.specs.Making.{AreFilling}
use Rattle.steal_pool.specs.Pools.{call_of}
use Rattle.steal_pool.proofs.deal.deal.Given as goal

abbrev pub invariant-loop-task : goal.invariant-loop-task
invariant-loop-task g l =
    GoesOver ((goal.iterator-loop-task g).can_next l.task-iterator) ((goal.iterator-loop-task g).is_finite l.task-iterator)
    l.fn.tasks.items l.done (into_iter_items l.task-iterator) (into_iter_len l.task-iterator)
    (length l.seats ≡ length l.initial.seats)
    (AreFilling (call_of l._pool) l.initial.seats l.seats l.fn.tasks.items (drop l.done l.fn.tasks.items))

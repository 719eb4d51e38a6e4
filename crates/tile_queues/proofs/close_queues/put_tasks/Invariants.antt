use Rattle.std.proofs.Common.{◌≡◌, length}
use Rattle.std.specs.Vec.Iter.{into_iter_items, into_iter_len}
use Rattle.cull_base.proofs.Lists.{GoesOver}
use Rattle.tile_queues.specs.Owners.{ArePutBack}
use Rattle.tile_queues.proofs.close_queues.put_tasks.Given as goal

abbrev pub invariant-loop-task : goal.invariant-loop-task
invariant-loop-task g l =
    GoesOver ((goal.iterator-loop-task g).can_next l.task-iterator) ((goal.iterator-loop-task g).is_finite l.task-iterator)
    l.fn.tasks.items l.done (into_iter_items l.task-iterator) (into_iter_len l.task-iterator)
    (length l.slots ≡ length l.fn.slots)
    (ArePutBack g.frame l.fn.tasks.items l.done l.fn.slots l.slots)

use Rattle.std.proofs.Common.{◌≡◌, length}
use Rattle.std.specs.Vec.Iter.{into_iter_items, into_iter_len}
use Rattle.cull_base.proofs.Lists.{GoesOver}
use Rattle.tile_queues.proofs.Ending.{AreBackBelow}
use Rattle.tile_queues.proofs.close_queues.put_shares.Given as goal

abbrev pub invariant-loop-share : goal.invariant-loop-share
invariant-loop-share g l =
    GoesOver ((goal.iterator-loop-share g).can_next l.share-iterator) ((goal.iterator-loop-share g).is_finite l.share-iterator)
    l.fn.shares.items l.done (into_iter_items l.share-iterator) (into_iter_len l.share-iterator)
    (length l.slots ≡ length l.fn.slots)
    (AreBackBelow g.frame (length l.fn.shares.items) l.done l.slots)

abbrev pub ghost-put_tasks : goal.ghost-put_tasks
ghost-put_tasks g a = g.frame

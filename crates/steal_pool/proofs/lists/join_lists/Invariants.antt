use Rattle.std.proofs.Common.{◌≡◌, ◌≤◌, ◌++◌, drop, length, vec_items, vec_capacity}
use Rattle.std.specs.Vec.Iter.{into_iter_items, into_iter_len}
use Rattle.cull_base.proofs.Lists.{GoesOver}
use Rattle.steal_pool.specs.Lists.{joined}
use Rattle.steal_pool.proofs.lists.join_lists.Given as goal

abbrev pub invariant-loop-list : goal.invariant-loop-list
invariant-loop-list l =
    GoesOver ((goal.iterator-loop-list).can_next l.list-iterator) ((goal.iterator-loop-list).is_finite l.list-iterator)
    l.fn.lists.items l.done (into_iter_items l.list-iterator) (into_iter_len l.list-iterator)
    (l.all.items ++ joined vec_items (drop l.done l.fn.lists.items) ≡ joined vec_items l.fn.lists.items)
    (length (joined vec_items l.fn.lists.items) ≤ vec_capacity l.all)

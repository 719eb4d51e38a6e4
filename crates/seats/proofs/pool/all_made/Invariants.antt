use Rattle.std.proofs.Common.{◌≤◌, length, vec_capacity}
use Rattle.std.specs.Vec.Iter.{into_iter_items, into_iter_len}
use Rattle.cull_base.proofs.Lists.{GoesOver}
use Rattle.seats.specs.Things.{AreAllMade}
use Rattle.seats.proofs.pool.all_made.Given as goal

abbrev pub invariant-loop-slot : goal.invariant-loop-slot
invariant-loop-slot g l =
    GoesOver ((goal.iterator-loop-slot g).can_next l.slot-iterator) ((goal.iterator-loop-slot g).is_finite l.slot-iterator)
    l.fn.slots.items l.number (into_iter_items l.slot-iterator) (into_iter_len l.slot-iterator)
    (AreAllMade (g.M.Makes.made l.maker) l.number l.things.items)
    (length l.fn.slots.items ≤ vec_capacity l.things)

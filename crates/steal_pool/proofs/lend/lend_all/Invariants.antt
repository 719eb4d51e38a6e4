use Rattle.std.proofs.Common.{◌≡◌, ◌+◌, length, vec_items, vec_capacity}
use Rattle.crossbeam_deque.specs.Handles.{stealer_deque}
use Rattle.steal_pool.specs.Making.{AreLent, AreRoomy, AreSeatsOn, HaveRowsTo}
use Rattle.steal_pool.specs.Pools.{call_of}
use Rattle.steal_pool.proofs.lend.lend_all.Given as goal

abbrev pub invariant-loop-w : goal.invariant-loop-w
invariant-loop-w g l =
    AreSeatsOn l.initial.seats l.seats
    × AreLent (call_of l.pool) (length l.initial.seats) 0 l.w l.seats
    × HaveRowsTo stealer_deque (call_of l.pool) l.thieves l.w l.seats
    × (length l.rows.items + l.w ≡ length l.initial.seats)
    × AreRoomy vec_items vec_capacity (length l.initial.seats) l.rows.items

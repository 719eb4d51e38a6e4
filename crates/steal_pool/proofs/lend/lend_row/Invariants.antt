use Rattle.std.proofs.Common.{◌≡◌, ◌≤◌, length, vec_capacity}
use Rattle.crossbeam_deque.specs.Handles.{stealer_deque}
use Rattle.steal_pool.specs.Gather.{AreEnds}
use Rattle.steal_pool.specs.Making.{AreLent, AreLentOn}
use Rattle.steal_pool.specs.Pools.{call_of}
use Rattle.steal_pool.specs.Seats.{AreFresh}
use Rattle.steal_pool.proofs.lend.lend_row.Given as goal

abbrev pub invariant-loop-d : goal.invariant-loop-d
invariant-loop-d g l =
    AreLentOn l.initial.seats l.seats
    × AreLent (call_of l.pool) (length l.initial.seats) l.d l.out l.seats
    × AreEnds stealer_deque (call_of l.pool) l._thieves l.passes.items
    × AreFresh l.passes.items
    × (length l.passes.items ≡ l.d)
    × (length l.initial.seats ≤ vec_capacity l.passes)

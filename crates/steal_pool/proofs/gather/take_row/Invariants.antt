use Rattle.std.proofs.Common.{◌≡◌, ◌+◌, ℕ, length, vec_len}
use Rattle.crossbeam_deque.specs.Handles.{stealer_deque}
use Rattle.steal_pool.specs.Pools.{call_of}
use Rattle.steal_pool.specs.Seats.{passes_weigh}
use Rattle.steal_pool.specs.Gather.{owners_weigh, AreOut, AreKept, AreEnds}
use Rattle.steal_pool.proofs.gather.take_row.Given as goal

abbrev pub invariant-loop-pass : goal.invariant-loop-pass
invariant-loop-pass g l =
    (length l.seats ≡ length l.initial.seats)
    × AreEnds stealer_deque (call_of l.pool) l.thieves l.passes.items
    × AreOut stealer_deque (call_of l.pool) l.thieves (vec_len l.passes) l.left l.seats
    × AreKept l.initial.seats l.seats
    × ((k : ℕ → ℕ) → owners_weigh k l.seats + passes_weigh k l.passes.items ≡ owners_weigh k l.initial.seats + passes_weigh k l.initial.passes.items)

abbrev pub decreases-loop-pass : goal.decreases-loop-pass
decreases-loop-pass g l = vec_len l.passes

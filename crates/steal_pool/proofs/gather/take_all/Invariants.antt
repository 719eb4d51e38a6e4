use Rattle.std.proofs.Common.{◌≡◌, ◌+◌, ◌-◌, ℕ, length}
use Rattle.crossbeam_deque.specs.Handles.{stealer_deque}
use Rattle.steal_pool.specs.Pools.{call_of}
use Rattle.steal_pool.specs.Gather.{owners_weigh, all_passes_weigh, AreOut, AreKeptAside, HavePassesFrom}
use Rattle.steal_pool.proofs.gather.take_all.Given as goal

abbrev pub invariant-loop-w : goal.invariant-loop-w
invariant-loop-w g l =
    (length l.seats ≡ length l.initial.seats)
    × HavePassesFrom stealer_deque (call_of l.pool) l.thieves l.w l.seats
    × AreOut stealer_deque (call_of l.pool) l.thieves 0 (length l.initial.seats - l.w) l.seats
    × AreKeptAside l.initial.seats l.seats
    × ((k : ℕ → ℕ) → owners_weigh k l.seats + all_passes_weigh k l.seats ≡ owners_weigh k l.initial.seats + all_passes_weigh k l.initial.seats)

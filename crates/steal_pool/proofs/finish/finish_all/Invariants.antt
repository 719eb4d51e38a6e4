use Rattle.std.proofs.Common.{◌≡◌, ℕ, length}
use Rattle.steal_pool.specs.Pools.{call_of}
use Rattle.steal_pool.specs.Gather.{owners_weigh}
use Rattle.steal_pool.specs.Finish.{AreFinishedTo, lists_weigh, pushed_weigh}
use Rattle.steal_pool.proofs.finish.finish_all.Given as goal

abbrev pub invariant-loop-w : goal.invariant-loop-w
invariant-loop-w g l =
    (length l.seats ≡ length l.initial.seats)
    × AreFinishedTo (call_of l.pool) l.w l.seats
    × ((k : ℕ → ℕ) → lists_weigh k l.seats ≡ owners_weigh k l.seats)
    × ((k : ℕ → ℕ) → pushed_weigh k l.seats ≡ pushed_weigh k l.initial.seats)

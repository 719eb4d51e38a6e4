use Rattle.std.proofs.Common.{◌≡◌, ◌+◌, ◌*◌, ◌≤◌, ℕ, All, vec_len, vec_capacity}
use Rattle.crossbeam_deque.specs.Handles.{stealer_deque}
use Rattle.steal_pool.specs.Pools.{call_of, tasks_weigh, IsWholeIn}
use Rattle.steal_pool.specs.Seats.{passes_weigh, ArePassesOf}
use Rattle.steal_pool.proofs.seat.steal_round.Given as goal

abbrev pub invariant-loop : goal.invariant-loop
invariant-loop g l =
    ArePassesOf stealer_deque (call_of l.pool) l.thieves l.passes.items
    × ((k : ℕ → ℕ) → tasks_weigh k l.list.items + passes_weigh k l.initial.passes.items ≡ tasks_weigh k l.initial.list.items + passes_weigh k l.passes.items)
    × (vec_len l.list ≤ vec_len l.initial.list + l.counter * l.pool.room)
    × All (IsWholeIn (call_of l.pool)) l.list.items
    × (vec_capacity l.initial.list ≤ vec_capacity l.list)

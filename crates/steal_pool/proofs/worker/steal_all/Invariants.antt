use Rattle.std.proofs.Common.{◌≡◌, ◌+◌, ◌≤◌, All, length, vec_len, vec_capacity}
use Rattle.crossbeam_deque.specs.Handles.{view, IsPassOf, stealer_deque}
use Rattle.steal_pool.specs.Pools.{call_of, IsWholeIn, Drew}
use Rattle.steal_pool.proofs.worker.steal_all.Given as goal

abbrev pub invariant-loop : goal.invariant-loop
invariant-loop g l =
    IsPassOf (stealer_deque l.thief) l.pass
    × Drew l.initial.list.items l.list.items (view l.initial.pass) (view l.pass)
    × All (IsWholeIn (call_of l.pool)) l.list.items
    × (vec_capacity l.initial.list ≤ vec_capacity l.list)
    × (vec_len l.list + length (view l.initial.pass).taken ≡ vec_len l.initial.list + length (view l.pass).taken)
    × ((view l.pass).of ≡ call_of l.pool)

use Rattle.std.proofs.Common.{◌≡◌, ◌+◌, ◌≤◌, All, length, vec_len, vec_capacity}
use Rattle.crossbeam_deque.specs.Handles.{SameWorker, worker_view}
use Rattle.steal_pool.specs.Pools.{call_of, IsWholeIn, Drew}
use Rattle.steal_pool.proofs.worker.pop_all.Given as goal

abbrev pub invariant-loop : goal.invariant-loop
invariant-loop g l =
    SameWorker l.initial.owner l.owner
    × Drew l.initial.list.items l.list.items (worker_view l.initial.owner) (worker_view l.owner)
    × All (IsWholeIn (call_of l.pool)) l.list.items
    × (vec_capacity l.initial.list ≤ vec_capacity l.list)
    × (vec_len l.list + length (worker_view l.initial.owner).taken ≡ vec_len l.initial.list + length (worker_view l.owner).taken)
    × ((worker_view l.owner).of ≡ call_of l.pool)

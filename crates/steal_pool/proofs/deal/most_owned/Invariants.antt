use Rattle.std.proofs.Common.{ℕ, ◌<◌, ◌≤◌, length}
use Rattle.steal_pool.specs.Making.{owned}
use Rattle.steal_pool.proofs.deal.most_owned.Given as goal

abbrev pub invariant-loop-worker : goal.invariant-loop-worker
invariant-loop-worker l = ((w : ℕ) → w < l.worker → owned l.workers w l.tasks ≤ l.most) × (l.most ≤ length l.tasks)

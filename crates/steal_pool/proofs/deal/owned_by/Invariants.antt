use Rattle.std.proofs.Common.{◌≡◌, ◌≤◌, take}
use Rattle.steal_pool.specs.Making.{owned}
use Rattle.steal_pool.proofs.deal.owned_by.Given as goal

abbrev pub invariant-loop-i : goal.invariant-loop-i
invariant-loop-i l = (l.count ≡ owned l.workers l.worker (take l.i l.tasks)) × (l.count ≤ l.i)

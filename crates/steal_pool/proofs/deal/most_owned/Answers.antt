use Rattle.std.proofs.Common.{ℕ, ◌≤◌, below_more, arith}
use Rattle.steal_pool.specs.Making.{owned}
use Rattle.steal_pool.proofs.deal.most_owned.Goals as goal

pub loop-worker-init : goal.loop-worker-init
loop-worker-init c = ((λ w lt. absurd (omega (arith, lt))), omega arith)

pub loop-worker-preserved : goal.loop-worker-preserved
loop-worker-preserved c =
    let inv = c.loop-worker.invariant in
    let count = c.owned_by-count.ensures in
    let greater = c.max-greater.ensures in (
      (λ w lt. below_more (λ (v : ℕ). owned c.args.workers v c.args.tasks.now ≤ c.max-greater.result) c.loop-worker.worker
          (λ v less. let h = inv.0 v less in omega (arith, h, greater))
          (omega (arith, count.value, greater)) w lt),
      omega (arith, inv.1, count.few, greater),
    )

pub returns-clause-each : goal.returns-clause-each
returns-clause-each c w lt = c.loop-worker.invariant.0 w (omega (arith, lt, c.loop-worker-test.false))

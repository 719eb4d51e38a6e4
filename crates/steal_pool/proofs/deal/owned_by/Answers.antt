use Rattle.std.proofs.Common.{arith, ap, ◌∙◌}
use Rattle.std.proofs.lemmas.List.{take_all}
use Rattle.steal_pool.specs.Making.{owned}
use Rattle.steal_pool.proofs.Dealing.{owned_more}
use Rattle.steal_pool.proofs.deal.owned_by.Goals as goal

pub loop-i-preserved : goal.loop-i-preserved
loop-i-preserved c =
    let inv = c.loop-i.invariant in
    let one = c.counted-count.ensures in
    let more = owned_more c.args.workers c.args.worker c.args.tasks.now c.loop-i.i c.index-tasks-i.result c.loop-i-test.true c.index-tasks-i.is in
    (omega (arith, inv.0, one.value, more), omega (arith, inv.1, one.small))

pub returns-clause-value : goal.returns-clause-value
returns-clause-value c =
    let inv = c.loop-i.invariant in
    inv.0 ∙ ap (owned c.args.workers c.args.worker) (take_all c.loop-i.i c.args.tasks.now (omega (arith, c.loop-i-test.false)))

pub returns-clause-few : goal.returns-clause-few
returns-clause-few c = omega (arith, c.loop-i.invariant.1, c.loop-i.auto.i-end)

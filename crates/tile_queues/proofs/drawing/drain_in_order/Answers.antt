use Rattle.std.proofs.Common.{arith, subst}
use Rattle.std.proofs.lemmas.List.{get_or_default}
use Rattle.bin_tasks.specs.Drains.{HasDrained}
use Rattle.tile_queues.specs.Shares.{MayDraw}
use Rattle.tile_queues.proofs.Changing.{turned}
use Rattle.tile_queues.proofs.Turning.{none_turned, turned_more}
use Rattle.tile_queues.proofs.drawing.drain_in_order.Goals as goal

pub loop-j-init : goal.loop-j-init
loop-j-init g c = none_turned (MayDraw c.args.drawing.now) HasDrained c.args.tasks.now c.requires

pub loop-j-preserved : goal.loop-j-preserved
loop-j-preserved g c =
    let xs = c.loop-j.tasks in
    let task = c.drain.new.self in
    turned_more (MayDraw c.args.drawing.now) HasDrained c.args.tasks.now xs c.loop-j.j task c.loop-j.invariant (omega arith) c.drain.ensures.may
    (λ d. subst (λ x. HasDrained x task) (get_or_default xs c.loop-j.j _ d (omega arith)) c.drain.ensures.drained)

pub returns-clause-drained : goal.returns-clause-drained
returns-clause-drained g c = turned (MayDraw c.args.drawing.now) HasDrained c.args.tasks.now c.loop-j.tasks c.loop-j.j (omega arith) c.loop-j.invariant

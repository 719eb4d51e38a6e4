use Rattle.tile_queues.proofs.Changing.{changed_on}
use Rattle.tile_queues.proofs.drawing.drain_share.Goals as goal

pub loop-init : goal.loop-init
loop-init g c = record { may = c.drain_each.ensures.may; drained = c.drain_each.ensures.drained }

pub loop-preserved : goal.loop-preserved
loop-preserved g c =
    record {
      may = c.drain_each-in-loop.ensures.may;
      drained = changed_on c.args.tasks.now c.loop.tasks c.drain_each-in-loop.new.tasks c.loop.invariant.drained c.drain_each-in-loop.ensures.drained;
    }

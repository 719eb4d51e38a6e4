use Rattle.std.proofs.Common.{All}
use Rattle.bin_tasks.specs.Drains.{HasDrained}
use Rattle.tile_queues.specs.Shares.{AreChanged, MayDraw}
use Rattle.tile_queues.proofs.drawing.drain_share.Given as goal

abbrev pub invariant-loop : goal.invariant-loop
invariant-loop g l =
    record {
      may : All (MayDraw l.drawing) l.tasks;
      drained : AreChanged HasDrained l.fn.tasks l.tasks;
    }

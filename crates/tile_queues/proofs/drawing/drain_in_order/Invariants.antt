use Rattle.bin_tasks.specs.Drains.{HasDrained}
use Rattle.tile_queues.specs.Shares.{MayDraw}
use Rattle.tile_queues.proofs.Turning.{IsTurnedTo}
use Rattle.tile_queues.proofs.drawing.drain_in_order.Given as goal

abbrev pub invariant-loop-j : goal.invariant-loop-j
invariant-loop-j g l = IsTurnedTo (MayDraw l.drawing) HasDrained l.initial.tasks l.tasks l.j

use Rattle.std.proofs.Common.{◌≡◌}
use Rattle.bin_tasks.specs.Drains.{WasTold}
use Rattle.tile_queues.specs.Shares.{MayDraw}
use Rattle.tile_queues.proofs.Turning.{IsTurnedTo}
use Rattle.tile_queues.proofs.drawing.tell_share.Given as goal

abbrev pub invariant-loop-j : goal.invariant-loop-j
invariant-loop-j g l =
    record {
      same : l.sender ≡ l.initial.sender;
      told : IsTurnedTo (MayDraw l.drawing) (WasTold l.initial.sender.batches) l.initial.tasks l.tasks l.j;
    }

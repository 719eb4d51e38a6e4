use Rattle.std.proofs.Common.{◌≡◌, All}
use Rattle.bin_tasks.specs.Drains.{WasTold}
use Rattle.tile_queues.specs.Shares.{AreChanged, MayDraw}
use Rattle.tile_queues.proofs.Turning.{IsTurnedTo}
use Rattle.tile_queues.proofs.drawing.tell_all.Given as goal

abbrev pub invariant-loop-w : goal.invariant-loop-w
invariant-loop-w g l =
    record {
      same : l.sender ≡ l.initial.sender;
      told : IsTurnedTo (λ s. All (MayDraw l.drawing) s.tasks.items) (λ a b. AreChanged (WasTold l.initial.sender.batches) a.tasks.items b.tasks.items) l.initial.shares l.shares l.w;
    }

use Rattle.bin_queues.specs.Tasks.{GoesOn}
use Rattle.bin_tasks.specs.Drains.{MayDrain}
use Rattle.bin_tasks.proofs.drawing.Drawing.drain_some.Given as goal

abbrev pub invariant-loop : goal.invariant-loop
invariant-loop g l =
    record {
      may : MayDrain g.K.Keeper.stands g.K.Keeper.cells l.self l.task;
      on : GoesOn l.initial.task.intake l.task.intake;
    }

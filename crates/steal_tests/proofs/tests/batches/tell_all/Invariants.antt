use Rattle.std.proofs.Common.{◌≡◌}
use Rattle.bin_queues.specs.Tasks.{IsTaskOf}
use Rattle.tile_queues.proofs.Turning.{IsTurnedTo}
use Rattle.steal_pool.specs.Telling.{IsToldMore}
use Rattle.steal_tests.proofs.tests.batches.tell_all.Given as goal

abbrev pub invariant-loop-j : goal.invariant-loop-j
invariant-loop-j g l =
    record {
      same : l.submitter ≡ l.initial.submitter;
      told : IsTurnedTo (IsTaskOf l.queues) (IsToldMore l.initial.submitter.batches) l.initial.tasks l.tasks l.j;
    }

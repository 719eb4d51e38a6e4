use Rattle.std.proofs.Common.{sym, subst}
use Rattle.tile_queues.specs.Owners.{AreTasksOf}
use Rattle.bin_queues.specs.QueueParts.{BatchedFrame}
use Rattle.steal_tests.proofs.tests.queues.close.Goals as goal

pub close-requires-clause-tasks : goal.close-requires-clause-tasks
close-requires-clause-tasks c = subst (λ (f : BatchedFrame). AreTasksOf c.args.queues f c.args.tasks.items) (sym c.requires.frame) c.requires.tasks

use Rattle.bin_queues.proofs.QueueKeeps.{tells_as}
use Rattle.bin_queues.proofs.queue_steps.tell.Goals as goal

pub another-requires-clause-rule : goal.another-requires-clause-rule
another-requires-clause-rule c = tells_as _ _ c.requires.submits

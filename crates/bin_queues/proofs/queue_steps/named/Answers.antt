use Rattle.bin_queues.proofs.QueueKeeps.{named_as}
use Rattle.bin_queues.proofs.queue_steps.named.Goals as goal

pub another-requires-clause-rule : goal.another-requires-clause-rule
another-requires-clause-rule g c = named_as _ _ _ c.requires.own.1 c.requires.nameless

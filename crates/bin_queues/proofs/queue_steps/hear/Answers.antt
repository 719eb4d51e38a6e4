use Rattle.bin_queues.proofs.QueueKeeps.{hears_as}
use Rattle.bin_queues.proofs.queue_steps.hear.Goals as goal

pub absorb-requires-clause-rule : goal.absorb-requires-clause-rule
absorb-requires-clause-rule c = hears_as _ _ _ _ c.requires.roles.0 c.requires.roles.1

use Rattle.bin_queues.proofs.QueueKeeps.{pops_as, told_as}
use Rattle.bin_queues.proofs.queue_steps.pop.Goals as goal

pub pop_as-requires-clause-rule : goal.pop_as-requires-clause-rule
pop_as-requires-clause-rule g c = (pops_as _ _ c.requires.takes, told_as _ _ c.requires.takes)

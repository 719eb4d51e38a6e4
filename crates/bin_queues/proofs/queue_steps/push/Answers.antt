use Rattle.bin_queues.proofs.QueueKeeps.{pushes_as, most_as}
use Rattle.bin_queues.proofs.queue_steps.push.Goals as goal

pub push_as-requires-clause-rule : goal.push_as-requires-clause-rule
push_as-requires-clause-rule g c = (pushes_as _ _ _ _ c.requires.submits c.requires.short c.requires.next, most_as _ _ c.requires.submits)

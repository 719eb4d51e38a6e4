use Rattle.steal_pool.proofs.DequeKeeps.{pushes}
use Rattle.steal_pool.proofs.deque_steps.push.Goals as goal

pub push_as-requires-clause-pushes : goal.push_as-requires-clause-pushes
push_as-requires-clause-pushes c = pushes _ _ _ c.requires.owns c.requires.told c.requires.short

use Rattle.steal_pool.proofs.DequeKeeps.{returns}
use Rattle.steal_pool.proofs.deque_steps.take_back.Goals as goal

pub absorb-requires-clause-rule : goal.absorb-requires-clause-rule
absorb-requires-clause-rule c = returns _ _ _ _ c.requires.roles.0 c.requires.roles.1

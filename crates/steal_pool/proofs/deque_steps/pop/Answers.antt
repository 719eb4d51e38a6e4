use Rattle.steal_pool.proofs.DequeKeeps.{pops, finds}
use Rattle.steal_pool.proofs.deque_steps.pop.Goals as goal

pub pop_as-requires-clause-fifo : goal.pop_as-requires-clause-fifo
pop_as-requires-clause-fifo c = λ _. pops _ _ c.requires.owns

pub pop_as-requires-clause-empty : goal.pop_as-requires-clause-empty
pop_as-requires-clause-empty c = finds _ _ c.requires.owns

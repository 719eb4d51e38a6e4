use Rattle.steal_pool.proofs.DequeKeeps.{lends}
use Rattle.steal_pool.proofs.deque_steps.lend.Goals as goal

pub another-requires : goal.another-requires
another-requires c = lends _ _ c.requires.owns

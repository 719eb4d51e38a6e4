use Rattle.steal_pool.proofs.DequeKeeps.{names}
use Rattle.steal_pool.proofs.deque_steps.named.Goals as goal

pub another-requires : goal.another-requires
another-requires g c = names _ _ g.B.Naming.call c.requires.nameless.1 c.requires.nameless.0

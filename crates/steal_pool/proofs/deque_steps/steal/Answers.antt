use Rattle.steal_pool.proofs.DequeKeeps.{steals, looks}
use Rattle.std.proofs.Common.{ap, ◌∙◌}
use Rattle.steal_pool.specs.declared.deque_rule.View.{View}
use Rattle.steal_pool.proofs.deque_steps.steal.Goals as goal

pub steal_as-requires-clause-takes : goal.steal_as-requires-clause-takes
steal_as-requires-clause-takes g c = steals _ _ (ap (λ (v : View). v.role) c.loop.invariant.1 ∙ c.requires.steals)

pub steal_as-requires-clause-empty : goal.steal_as-requires-clause-empty
steal_as-requires-clause-empty g c = looks _ _ _ (ap (λ (v : View). v.role) c.loop.invariant.1 ∙ c.requires.steals)

use Rattle.steal_pool.proofs.Counting.{owner_has_each, owner_has_no_other}
use Rattle.steal_pool.proofs.laws.owner_has_every_place.Goals as goal

pub returns-clause-each : goal.returns-clause-each
returns-clause-each c = owner_has_each

pub returns-clause-others : goal.returns-clause-others
returns-clause-others c = owner_has_no_other

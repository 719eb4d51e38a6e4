use Rattle.group_query.proofs.TightHulls.{hulls_are_tight}
use Rattle.group_query.proofs.laws.hull_touches_its_members.Goals as goal

pub returns : goal.returns
returns c = hulls_are_tight

use Rattle.std.proofs.lemmas.List.{get_or_default}
use Rattle.group_query.proofs.grouped.Grouped.group_at.Goals as goal

pub returns-clause-at : goal.returns-clause-at
returns-clause-at g c d = get_or_default c.args.self.now.groups.now c.args.number _ d c.requires

pub returns-clause-within : goal.returns-clause-within
returns-clause-within g c = c.args.self.now.apart.within c.args.number _ c.requires

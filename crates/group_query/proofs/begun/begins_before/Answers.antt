use Rattle.std.proofs.Common.{nat_lt, ap}
use Rattle.std.proofs.lemmas.List.{get_or_default}
use Rattle.group_query.specs.declared.grouping.Group.{Group}
use Rattle.group_query.proofs.begun.begins_before.Goals as goal

pub returns : goal.returns
returns c d = ap (λ (g : Group). nat_lt g.first c.args.place) (get_or_default c.args.groups.now c.args.number _ d c.requires)

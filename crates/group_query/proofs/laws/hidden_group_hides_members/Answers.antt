use Rattle.group_query.proofs.HiddenHulls.{hides_members}
use Rattle.group_query.proofs.laws.hidden_group_hides_members.Goals as goal

pub returns : goal.returns
returns c = hides_members

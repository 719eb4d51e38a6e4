use Rattle.group_query.proofs.CutGroups.{cuts_in_groups}
use Rattle.group_query.proofs.laws.boxes_stand_in_groups.Goals as goal

pub returns : goal.returns
returns c = cuts_in_groups

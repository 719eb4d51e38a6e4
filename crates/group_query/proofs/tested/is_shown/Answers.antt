use Rattle.std.proofs.Common.{ap, not}
use Rattle.group_query.proofs.tested.is_shown.Goals as goal

pub returns-in-Flat : goal.returns-in-Flat
returns-in-Flat c = rw c.in-Flat.is (ap not c.is_occluded.ensures)

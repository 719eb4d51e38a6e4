use Rattle.maskcull_c.proofs.Joined.{cleared}
use Rattle.maskcull_c.proofs.laws.part_cleared.Goals as goal

pub returns : goal.returns
returns c = cleared

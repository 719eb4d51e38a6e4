use Rattle.maskcull_c.proofs.InPicture.{hides_sums}
use Rattle.maskcull_c.proofs.picture_laws.nearer_than_all.Goals as goal

pub returns : goal.returns
returns c = hides_sums

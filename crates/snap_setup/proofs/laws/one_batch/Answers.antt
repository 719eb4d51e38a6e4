use Rattle.snap_setup.proofs.Batches.{in_one_batch}
use Rattle.snap_setup.proofs.laws.one_batch.Goals as goal

pub returns : goal.returns
returns c = λ clips tris top near size winding. in_one_batch clips top near size tris winding

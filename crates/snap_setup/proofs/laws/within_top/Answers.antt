use Rattle.snap_setup.proofs.WithinTop.{members_within}
use Rattle.snap_setup.proofs.laws.within_top.Goals as goal

pub returns : goal.returns
returns c = λ clips tris top near size batches t some few has. members_within clips tris top near size batches t some few has

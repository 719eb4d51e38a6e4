use Rattle.masked_update.proofs.WithinTop.{bound_within}
use Rattle.masked_update.proofs.bounds.bounds_within.Goals as goal

pub returns : goal.returns
returns c = λ u pieces s top k all most sound lt. bound_within u pieces s top k all most sound lt

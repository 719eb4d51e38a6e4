use Rattle.masked_update.proofs.Unchanged.{low_le_greatest}
use Rattle.masked_update.proofs.Cuts.{same_step}
use Rattle.masked_update.proofs.cut.lower_cut.Goals as goal

pub returns : goal.returns
returns c = record { bound = λ u x k piece lt e. low_le_greatest x u k piece lt e; step = λ top u s x piece le within. same_step top u s x piece le within }

use Rattle.masked_update.proofs.SampledLists.{tile_after-sampled}
use Rattle.masked_update.proofs.sample_box.sampled_members.Goals as goal

pub returns : goal.returns
returns c = λ list tile valid pieces. tile_after-sampled list tile valid pieces

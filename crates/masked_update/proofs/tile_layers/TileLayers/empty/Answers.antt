use Rattle.std.proofs.Common.{refl}
use Rattle.masked_update.specs.Lanes.{states_of}
use Rattle.masked_update.proofs.tile_layers.TileLayers.empty.Goals as goal

pub returns : goal.returns
unfolding states_of
returns c = refl

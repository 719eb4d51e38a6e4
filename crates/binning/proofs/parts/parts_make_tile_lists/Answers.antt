use Rattle.binning.proofs.Laws.{parts_make_tile_list}
use Rattle.binning.proofs.parts.parts_make_tile_lists.Goals as goal

pub returns : goal.returns
returns c = λ list cut size tile valid is some lt. parts_make_tile_list list cut size tile valid is some lt

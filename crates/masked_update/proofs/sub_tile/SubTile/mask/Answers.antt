use Rattle.masked_update.proofs.Steps.{layered_of}
use Rattle.masked_update.proofs.sub_tile.SubTile.mask.Goals as goal

pub returns-clause-layered : goal.returns-clause-layered
returns-clause-layered c = layered_of _ _ _ _ c.self.view_is c.self.invariant

use Rattle.std.proofs.Common.{rules}
use Rattle.tile_cells.proofs.Keeps.{loads_as}
use Rattle.tile_cells.proofs.steps.load.Goals as goal

pub load_as-requires : goal.load_as-requires
load_as-requires g c = (search rules, (search rules, (c.requires.own, loads_as _ _ c.requires.reads)))

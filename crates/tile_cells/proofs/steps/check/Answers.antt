use Rattle.std.proofs.Common.{rules}
use Rattle.tile_cells.proofs.Keeps.{checks_as}
use Rattle.tile_cells.proofs.steps.check.Goals as goal

pub load_as-requires : goal.load_as-requires
load_as-requires g c = (search rules, (search rules, (c.requires.own, checks_as _ _ c.requires.writes)))

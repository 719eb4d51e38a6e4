use Rattle.std.proofs.Common.{rules}
use Rattle.tile_cells.proofs.Keeps.{stores_as}
use Rattle.tile_cells.proofs.steps.store.Goals as goal

pub swap_as-requires : goal.swap_as-requires
swap_as-requires g c = (search rules, (search rules, (c.requires.own, stores_as _ _ _ c.requires.writes c.requires.next)))

use Rattle.std.proofs.Common.{rules}
use Rattle.tile_cells.proofs.Keeps.{tells_as}
use Rattle.tile_cells.proofs.steps.tell.Goals as goal

pub split_pass-requires : goal.split_pass-requires
split_pass-requires c = (search rules, (search rules, (c.requires.own, tells_as _ _ c.requires.writes)))

use Rattle.std.proofs.Common.{rules}
use Rattle.tile_cells.proofs.Keeps.{named_as}
use Rattle.tile_cells.proofs.steps.named.Goals as goal

pub split_pass-requires : goal.split_pass-requires
split_pass-requires g c = (search rules, (search rules, (c.requires.own, named_as _ _ _ _ c.requires.nameless)))

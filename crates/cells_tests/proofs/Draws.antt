-- what a loop that draws into one tile after another stands on
use Rattle.tile_cells.proofs.Standing.{standing_begins, standing_more, standing_ends}

pub ruleset standing_steps = (standing_begins, standing_more, standing_ends)

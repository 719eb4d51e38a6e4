use Rattle.depth_plane.proofs.FloorLanes.{eight_ones}
use Rattle.depth_plane.proofs.floor_lanes.ones_from.Goals as goal

pub returns-clause-value : goal.returns-clause-value
returns-clause-value c = eight_ones c.args.least c.args.numbers c.fits-numbers.0

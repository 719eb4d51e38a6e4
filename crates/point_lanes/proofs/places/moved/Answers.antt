use Rattle.point_lanes.proofs.Placing.{moved_at}
use Rattle.point_lanes.proofs.places.moved.Goals as goal

pub returns : goal.returns
returns c = moved_at c.args.numbers c.args.pixels c.from-shift.result c.fits-numbers.0 c.from-shift.ensures

use Rattle.lane_numbers.proofs.StepLanes.{left_at, left_long}
use Rattle.lane_numbers.proofs.newton.left_of.Goals as goal

pub returns-clause-value : goal.returns-clause-value
returns-clause-value c = left_at c.args.numbers c.fits-numbers.0 c.fits-numbers.1 c.requires

pub returns-clause-eight : goal.returns-clause-eight
returns-clause-eight c = left_long c.args.numbers c.fits-numbers.0

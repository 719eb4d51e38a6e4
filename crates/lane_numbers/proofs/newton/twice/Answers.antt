use Rattle.lane_numbers.proofs.StepLanes.{twice_at, twice_fits, twice_long}
use Rattle.lane_numbers.proofs.newton.twice.Goals as goal

pub overflow_add-result : goal.overflow_add-result
overflow_add-result c = twice_fits c.args.numbers c.fits-numbers.0 c.requires

pub returns-clause-value : goal.returns-clause-value
returns-clause-value c = twice_at c.args.numbers c.fits-numbers.0

pub returns-clause-eight : goal.returns-clause-eight
returns-clause-eight c = twice_long c.args.numbers c.fits-numbers.0

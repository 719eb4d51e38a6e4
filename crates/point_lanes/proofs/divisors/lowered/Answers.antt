use Rattle.std.proofs.Common.{◌-◌, ◌≤◌}
use Rattle.point_lanes.proofs.Lanes.{at_same, long_same, pairs_same}
use Rattle.point_lanes.proofs.divisors.lowered.Goals as goal

pub overflow_sub-result : goal.overflow_sub-result
overflow_sub-result c = pairs_same (λ a b. b ≤ a) c.args.reciprocals 8 c.fits-reciprocals.0 c.requires

pub returns-clause-value : goal.returns-clause-value
returns-clause-value c = at_same (λ a b. a - b) c.args.reciprocals 8 c.fits-reciprocals.0

pub returns-clause-eight : goal.returns-clause-eight
returns-clause-eight c = long_same (λ a b. a - b) c.args.reciprocals 8 c.fits-reciprocals.0

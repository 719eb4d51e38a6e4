use Rattle.point_lanes.proofs.Placing.{ratio_at, scaled_fit}
use Rattle.point_lanes.proofs.places.ratios_of.Goals as goal

pub overflow_mul-scaled : goal.overflow_mul-scaled
overflow_mul-scaled c = let d = c.args.divisors.now in scaled_fit c.args.offsets d.numbers d.powers d.reciprocals c.fits-offsets.0 d.are_divisors c.requires

pub returns-clause-value : goal.returns-clause-value
returns-clause-value c = let d = c.args.divisors.now in ratio_at c.args.offsets d.numbers d.powers d.reciprocals c.mul_high.result c.fits-offsets.0 d.are_divisors c.mul_high.ensures.value

use Rattle.std.proofs.Common.{◌/◌, ◌^◌}
use Rattle.point_lanes.proofs.Lanes.{long_same}
use Rattle.point_lanes.proofs.Placing.{guess_at}
use Rattle.point_lanes.proofs.places.guesses_of.Goals as goal

pub returns-clause-value : goal.returns-clause-value
returns-clause-value c = guess_at c.args.ratios c.mul_high.result c.args.pixels c.from-scale.result c.fits-ratios.0 c.mul_high.ensures.eight c.from-scale.ensures c.mul_high.ensures.value

pub returns-clause-eight : goal.returns-clause-eight
returns-clause-eight c = long_same (λ a b. a / 2 ^ b) c.mul_high.result 9 c.mul_high.ensures.eight

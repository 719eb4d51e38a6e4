use Rattle.std.proofs.Common.{◌+◌}
use Rattle.point_lanes.proofs.Lanes.{long_both}
use Rattle.point_lanes.proofs.Placing.{doubles_fit, rounded_at, sums_fit}
use Rattle.point_lanes.proofs.places.rounded.Goals as goal

pub overflow_add-divisors : goal.overflow_add-divisors
overflow_add-divisors c = doubles_fit c.args.numbers c.fits-numbers.0 c.requires.numbers

pub overflow_add-result : goal.overflow_add-result
overflow_add-result c = sums_fit c.args.guesses c.ones_from.result _ c.args.rests c.fits-guesses.0 c.requires.guesses c.ones_from.ensures.value

pub returns-clause-value : goal.returns-clause-value
returns-clause-value c = rounded_at c.args.guesses c.ones_from.result c.args.numbers c.args.rests c.fits-guesses.0 c.ones_from.ensures.eight c.fits-numbers.0 c.ones_from.ensures.value

pub returns-clause-eight : goal.returns-clause-eight
returns-clause-eight c = long_both (λ a b. a + b) c.args.guesses c.ones_from.result c.fits-guesses.0 c.ones_from.ensures.eight

use Rattle.point_lanes.proofs.Nearing.{AreGuesses, quotient_at, sums_fit}
use Rattle.point_lanes.proofs.nearness.quotients.Goals as goal

pub overflow_add-result : goal.overflow_add-result
overflow_add-result c = sums_fit c.args.guesses c.ones_from-ones.result c.args.divisors _ c.fits-guesses.0 c.requires.small c.ones_from-ones.ensures.value

pub returns : goal.returns
returns c =
    let h : AreGuesses c.args.number c.args.divisors c.args.guesses = record { small = c.requires.divisors; low = c.requires.low; high = c.requires.high } in
    quotient_at c.args.number c.args.divisors c.args.guesses c.ones_from-ones.result c.fits-divisors.0 c.fits-guesses.0 c.ones_from-ones.ensures.eight h c.ones_from-ones.ensures.value

use Rattle.lane_numbers.proofs.Halves.{upper_halves_are}
use Rattle.lane_numbers.proofs.high.upper_halves.Goals as goal

pub returns-clause-value : goal.returns-clause-value
returns-clause-value c = upper_halves_are c.args.numbers c.fits-numbers.0 c.fits-numbers.1

use Rattle.std.proofs.Common.{refl}
use Rattle.lane_numbers.proofs.Guesses.{guess_is}
use Rattle.lane_numbers.proofs.table.first_guess.Goals as goal

pub returns-clause-near : goal.returns-clause-near
returns-clause-near c = (guess_is c.args.number _ c.requires c.ranges.number.fits refl).near

pub returns-clause-within : goal.returns-clause-within
returns-clause-within c = (guess_is c.args.number _ c.requires c.ranges.number.fits refl).within

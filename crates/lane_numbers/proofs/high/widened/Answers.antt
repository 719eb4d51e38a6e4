use Rattle.std.proofs.Common.{lit≤, w32, w64}
use Rattle.std.proofs.lemmas.Simd.{widens, below_from_Fits}
use Rattle.lane_numbers.proofs.Halves.{widened_small}
use Rattle.lane_numbers.proofs.high.widened.Goals as goal

pub overflow_cast-result : goal.overflow_cast-result
overflow_cast-result c = widens w32 w64 (lit≤ tt) c.args.numbers c.fits-numbers.1

pub returns-clause-small : goal.returns-clause-small
returns-clause-small c = widened_small c.args.numbers (below_from_Fits w32 c.args.numbers c.fits-numbers.1)

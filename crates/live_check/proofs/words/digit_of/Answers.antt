use Rattle.std.proofs.Common.{arith}
use Rattle.live_check.proofs.words.digit_of.Goals as goal

pub returns-then-is_ascii_digit-clause-some : goal.returns-then-is_ascii_digit-clause-some
returns-then-is_ascii_digit-clause-some c = let digit = c.if-is_ascii_digit.ensures.cases in ((omega arith, omega arith), omega arith)

pub returns-else-is_ascii_digit-clause-none : goal.returns-else-is_ascii_digit-clause-none
returns-else-is_ascii_digit-clause-none c none digit = let other = c.if-is_ascii_digit.ensures.cases in omega arith

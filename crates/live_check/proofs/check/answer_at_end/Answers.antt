use Rattle.std.proofs.Common.{refl}
use Rattle.live_check.proofs.check.answer_at_end.Goals as goal

-- a byte follows
pub returns-in-Some-clause-answer : goal.returns-in-Some-clause-answer
returns-in-Some-clause-answer g c = let (rest, is) = rw c.in-Some.is at c.in_ok-peek.ensures.some in (refl, (_, rest, is))

pub returns-in-None-clause-answer : goal.returns-in-None-clause-answer
returns-in-None-clause-answer g c = c.in_ok-peek.ensures.none c.in-None.is

pub returns-in-Some-clause-same : goal.returns-in-Some-clause-same
returns-in-Some-clause-same g c = c.in_ok-peek.ensures.same

pub returns-in-None-clause-same : goal.returns-in-None-clause-same
returns-in-None-clause-same g c = c.in_ok-peek.ensures.same

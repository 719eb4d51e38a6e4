use Rattle.live_check.proofs.unread.Unread.peek.Goals as goal

pub returns-in-Some-clause-some : goal.returns-in-Some-clause-some
returns-in-Some-clause-some g c = rw c.in-Some.is at c.first.ensures.some

pub refill-requires : goal.refill-requires
refill-requires g c = c.first.ensures.none c.in_default.is

pub returns-clause-same : goal.returns-clause-same
returns-clause-same g c = c.in_ok-refill.ensures.same

pub returns-clause-some : goal.returns-clause-some
returns-clause-some g c = c.first-2.ensures.some

pub returns-clause-none : goal.returns-clause-none
returns-clause-none g c is = let none = c.first-2.ensures.none is in (none, c.in_ok-refill.ensures.ended none)

use Rattle.std.proofs.Common.{◌+◌, [], ◌∷◌, arith, sym}
use Rattle.live_check.proofs.ByBytes.{behind_byte, behind_from, behind_none, came_byte, came_from}
use Rattle.live_check.proofs.words.take_digit.Goals as goal

-- nothing waits
pub returns-in_default-clause-none : goal.returns-in_default-clause-none
returns-in_default-clause-none g c _ =
    let end = c.in_ok-next.ensures.none c.in_default.is in
    (c.in_ok-next.ensures.same, behind_from _ _ c.in_ok-next.ensures.same (behind_none _ _ end.0 end.1))

-- another byte waits
pub returns-in_default-digit_of-clause-none : goal.returns-in_default-digit_of-clause-none
returns-in_default-digit_of-clause-none g c _ =
    let (rest, is) = rw c.in-Some.is at c.in_ok-next.ensures.some in
    (c.in_ok-next.ensures.same, behind_from _ _ c.in_ok-next.ensures.same (behind_byte _ c.in-Some.next rest _ is (c.digit_of.ensures.none c.in_default-digit_of.is)))

pub skip-requires : goal.skip-requires
skip-requires g c = let (rest, is) = rw c.in-Some.is at c.in_ok-next.ensures.some in rw is (omega arith)

pub returns-clause-came : goal.returns-clause-came
returns-clause-came g c =
    let (rest, is) = rw c.in-Some.is at c.in_ok-next.ensures.some in
    let digit = rw c.in-Some-digit_of.is at c.digit_of.ensures.some in
    (omega (arith, digit.0.1, digit.1), came_from _ _ _ ((48 + c.in-Some-digit_of.digit) ∷ []) c.in_ok-next.ensures.same (came_byte _ _ (48 + c.in-Some-digit_of.digit) rest _ (rw (sym digit.1) is) c.skip.ensures))

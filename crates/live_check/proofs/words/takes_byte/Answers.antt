use Rattle.std.proofs.Common.{[], ◌∷◌, arith}
use Rattle.live_check.proofs.ByBytes.{came_byte, came_from, never_byte, never_from, never_none}
use Rattle.live_check.proofs.words.takes_byte.Goals as goal

pub returns-in_default-clause-other : goal.returns-in_default-clause-other
returns-in_default-clause-other g c _ =
    let end = c.in_ok-next.ensures.none c.in_default.is in
    never_from _ _ (c.args.byte ∷ []) c.in_ok-next.ensures.same (never_none _ c.args.byte _ end.0 end.1)

pub returns-in_default-clause-stays : goal.returns-in_default-clause-stays
returns-in_default-clause-stays g c _ = c.in_ok-next.ensures.same

pub skip-requires : goal.skip-requires
skip-requires g c =
    let (rest, is) = rw c.in-Some.is at c.in_ok-next.ensures.some in rw is (omega arith)

pub returns-then-next-byte-clause-came : goal.returns-then-next-byte-clause-came
returns-then-next-byte-clause-came g c _ =
    let (rest, is) = rw (c.in-Some.is, c.if-next-byte.true) at c.in_ok-next.ensures.some in
    came_from _ _ _ (c.args.byte ∷ []) c.in_ok-next.ensures.same (came_byte _ _ c.args.byte rest _ is c.skip.ensures)

pub returns-clause-other : goal.returns-clause-other
returns-clause-other g c _ =
    let (rest, is) = rw c.in-Some.is at c.in_ok-next.ensures.some in
    never_from _ _ (c.args.byte ∷ []) c.in_ok-next.ensures.same (never_byte _ c.in-Some.next c.args.byte rest _ is c.if-next-byte.false)

pub returns-clause-stays : goal.returns-clause-stays
returns-clause-stays g c _ = c.in_ok-next.ensures.same

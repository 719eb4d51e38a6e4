use Rattle.std.proofs.Common.{arith, sym, ◌∙◌}
use Rattle.live_check.proofs.ByBytes.{none_wait, some_wait}
use Rattle.live_check.proofs.unread.Unread.first.Goals as goal

pub returns-then-self-clause-some : goal.returns-then-self-clause-some
returns-then-self-clause-some c =
    let u = c.self.inside in
    let (rest, is) = some_wait u.bytes u.next u.end c.if-self.true c.self.invariant.1 in (rest, sym c.self.view_is ∙ is)

pub returns-else-self-clause-none : goal.returns-else-self-clause-none
returns-else-self-clause-none c _ =
    let u = c.self.inside in sym c.self.view_is ∙ none_wait u.bytes u.next u.end (omega (arith, c.if-self.false))

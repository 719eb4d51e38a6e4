use Rattle.std.proofs.Common.{refl}
use Rattle.live_check.proofs.words.if_text.Goals as goal

pub returns-then-branch-clause-some : goal.returns-then-branch-clause-some
returns-then-branch-clause-some g c = (refl, c.in_ok-takes_text.ensures.came c.if-branch.true)

pub returns-else-branch-clause-none : goal.returns-else-branch-clause-none
returns-else-branch-clause-none g c _ = c.in_ok-takes_text.ensures.other c.if-branch.false

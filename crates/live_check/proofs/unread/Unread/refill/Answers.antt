use Rattle.std.proofs.Common.{arith}
use Rattle.live_check.proofs.ByBytes.{none_taken, refilled}
use Rattle.live_check.proofs.unread.Unread.refill.Goals as goal

pub returns-clause-same : goal.returns-clause-same
returns-clause-same g c = refilled _ c.fill.new.buffer _ _ _ c.requires c.in_ok-self-inside.ensures.taken.front

pub returns-clause-ended : goal.returns-clause-ended
returns-clause-ended g c none =
    let within = c.in_ok-self-inside.ensures.within in
    c.in_ok-self-inside.ensures.ended (omega (arith, within, none_taken c.fill.new.buffer _ (omega (arith, within, c.fill.auto.buffer)) none))

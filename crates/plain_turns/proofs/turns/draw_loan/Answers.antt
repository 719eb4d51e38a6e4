use Rattle.std.proofs.Common.{rules}
use Rattle.plain_turns.proofs.turns.draw_loan.Goals as goal

pub begun-requires : goal.begun-requires
begun-requires g c = (search rules, c.requires.task)

use Rattle.command_words.proofs.Builders.{all_commands, command_added}
use Rattle.command_words.proofs.program.program.Goals as goal

pub loop-row-preserved : goal.loop-row-preserved
loop-row-preserved c = command_added _ _ _ _ _ _ _ c.loop-row-test.true c.in_ok-program.ensures c.in_ok-command.ensures.local c.in_ok-command.ensures.app c.loop-row.invariant

pub returns-clause-app : goal.returns-clause-app
returns-clause-app c = all_commands _ _ _ c.loop-row.row-index c.loop-row-test.false c.loop-row.invariant

use Rattle.command_words.proofs.Builders.{all_options, arg_local, option_added}
use Rattle.command_words.proofs.program.command.Goals as goal

pub loop-option-preserved : goal.loop-option-preserved
loop-option-preserved c = record {
  app = option_added _ _ _ _ _ _ _ c.loop-option-test.true c.in_ok-command.ensures c.argument.ensures.local c.argument.ensures.rule c.loop-option.invariant.app;
  local = arg_local _ _ _ c.in_ok-command.ensures c.argument.ensures.local c.loop-option.invariant.local;
}

pub returns-clause-app : goal.returns-clause-app
returns-clause-app c = all_options _ _ _ c.loop-option.option-index c.loop-option-test.false c.loop-option.invariant.app

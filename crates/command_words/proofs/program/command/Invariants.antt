use Rattle.std.proofs.Common.{◌≡◌, false}
use Rattle.clap.specs.Words.{app_of}
use Rattle.clap.specs.declared.builder.Command.TheViews.{out-Command as fields_of}
use Rattle.command_words.proofs.Builders.{with_first}
use Rattle.command_words.proofs.program.command.Given as goal

abbrev pub invariant-loop-option : goal.invariant-loop-option
invariant-loop-option l = record {
  app : app_of l.command ≡ with_first l.row.name.now l.option-items l.option-index;
  local : (fields_of l.command).has_globals ≡ false;
}

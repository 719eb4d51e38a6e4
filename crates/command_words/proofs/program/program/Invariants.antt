use Rattle.std.proofs.Common.{◌≡◌, take, true, codes}
use Rattle.clap.specs.Words.{app_of, new_app}
use Rattle.clap.specs.Simple.{on_top}
use Rattle.command_words.proofs.Builders.{with_commands}
use Rattle.command_words.proofs.program.program.Given as goal

abbrev pub invariant-loop-row : goal.invariant-loop-row
invariant-loop-row l = app_of l.program ≡ with_commands (on_top (λ s. record s { has_version = true; subcommand_required = true }) (new_app (codes "maskcull"))) (take l.row-index l.row-items)

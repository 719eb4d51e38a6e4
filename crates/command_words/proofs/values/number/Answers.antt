use Rattle.std.proofs.Common.{inl, sym, ap, ◌∙◌}
use Rattle.std.specs.Option.{unwrap_or}
use Rattle.clap.specs.Words.{found_of, rows_of}
use Rattle.command_words.proofs.OptionNumbers.{number_some}
use Rattle.command_words.proofs.values.number.Goals as goal

pub number_of-requires : goal.number_of-requires
number_of-requires c = inl c.requires

pub unwrap-requires : goal.unwrap-requires
unwrap-requires c = number_some (rows_of (found_of c.args.matches.now)) c.args.option.now.name.now 0 4294967295 c.number_of.result c.number_of.ensures c.requires

pub returns : goal.returns
returns c = sym (ap (λ o. unwrap_or o 0) c.unwrap.ensures) ∙ ap (λ o. unwrap_or o 0) c.number_of.ensures

use Rattle.std.proofs.Common.{◌∙◌}
use Rattle.clap.specs.Words.{found_of, rows_of}
use Rattle.command_words.specs.Words.{cut_by, value_in}
use Rattle.command_words.proofs.settings.settings_of.Goals as goal

pub is_given-early-requires : goal.is_given-early-requires
is_given-early-requires c = c.requires.1.1.1.1.0

pub is_given-steal-requires : goal.is_given-steal-requires
is_given-steal-requires c = c.requires.1.1.1.1.1.0

pub cut_of-requires : goal.cut_of-requires
cut_of-requires c = (c.requires.0, (c.requires.1.0, (c.requires.1.1.0, (c.requires.1.1.1.0, tt))))

pub returns-clause-value : goal.returns-clause-value
returns-clause-value c = c.cut_of.ensures.value ∙ (λ i. cut_by (value_in (rows_of (found_of c.args.matches.now))) (c.is_given-early.ensures i) (c.is_given-steal.ensures i))

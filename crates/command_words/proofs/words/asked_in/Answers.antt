use Rattle.std.proofs.Common.{◌∙◌, ap, Some}
use Rattle.clap.specs.Words.{found_of, rows_of}
use Rattle.command_words.proofs.AskedWords.{kind_asks, kind_has}
use Rattle.command_words.proofs.words.asked_in.Goals as goal

pub asked_by-requires : goal.asked_by-requires
asked_by-requires c = kind_has c.args.name.now (rows_of (found_of c.args.matches.now)) c.in-Some.kind c.in-Some.ensures c.requires

pub returns-in-Some-clause-value : goal.returns-in-Some-clause-value
returns-in-Some-clause-value c = ap Some c.asked_by.ensures.value ∙ kind_asks c.args.name.now (rows_of (found_of c.args.matches.now)) _ c.in-Some.ensures

pub returns-in-None-clause-value : goal.returns-in-None-clause-value
returns-in-None-clause-value c = kind_asks c.args.name.now (rows_of (found_of c.args.matches.now)) _ c.in-None.ensures

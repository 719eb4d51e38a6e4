use Rattle.std.proofs.Common.{◌≡◌, map}
use Rattle.command_words.specs.Table.{row_among, row_of}
use Rattle.command_words.proofs.AskedWords.{row_from}
use Rattle.command_words.proofs.words.kind_named.Given as goal

abbrev pub invariant-loop-row : goal.invariant-loop-row
invariant-loop-row l = row_among (map row_of l.rows) l.name ≡ row_from l.name l.rows l.row-index

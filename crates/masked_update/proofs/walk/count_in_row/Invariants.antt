use Rattle.masked_update.specs.Walk.{CountedWhere, is_in_row}
use Rattle.masked_update.proofs.Walks.{columns_before}
use Rattle.masked_update.proofs.walk.count_in_row.Given as goal

abbrev pub invariant-loop-column : goal.invariant-loop-column
invariant-loop-column l = CountedWhere (is_in_row (columns_before l.fn.span l.column) l.fn.row) l.initial.canvas l.canvas

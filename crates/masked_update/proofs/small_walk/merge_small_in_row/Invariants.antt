use Rattle.masked_update.specs.Walk.{MergedWhere, is_in_row}
use Rattle.masked_update.proofs.Walks.{columns_before}
use Rattle.masked_update.proofs.small_walk.merge_small_in_row.Given as goal

abbrev pub invariant-loop-column : goal.invariant-loop-column
invariant-loop-column l = MergedWhere (is_in_row (columns_before l.fn.span l.column) l.fn.row) l.fn.reached.size l.fn.piece l.initial.canvas l.canvas

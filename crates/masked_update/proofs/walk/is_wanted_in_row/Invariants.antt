use Rattle.std.specs.Prelude.{◌≤◌, ◌-◌}
use Rattle.masked_update.specs.Walk.{StayWhere, is_in_row}
use Rattle.masked_update.proofs.Walks.{columns_before}
use Rattle.masked_update.proofs.walk.is_wanted_in_row.Given as goal

abbrev pub invariant-loop-column : goal.invariant-loop-column
invariant-loop-column l = record {
  from : l.fn.span.first_column ≤ l.column;
  stay : StayWhere (is_in_row (columns_before l.fn.span l.column) l.fn.row) l.fn.reached.size l.fn.tri l.fn.canvas;
}

abbrev pub decreases-loop-column : goal.decreases-loop-column
decreases-loop-column l = l.fn.span.end_column - l.column

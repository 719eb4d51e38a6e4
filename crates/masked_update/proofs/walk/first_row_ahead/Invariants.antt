use Rattle.std.specs.Prelude.{◌≤◌, ◌-◌}
use Rattle.cull_base.specs.Span.{has_tile}
use Rattle.masked_update.specs.Walk.{NoneBelowWhere, rows_before}
use Rattle.masked_update.proofs.walk.first_row_ahead.Given as goal

abbrev pub invariant-loop-row : goal.invariant-loop-row
invariant-loop-row l = record {
  from : l.fn.span.first_row ≤ l.row;
  behind : NoneBelowWhere l.fn.nearest (has_tile (rows_before l.fn.span l.row)) l.canvas;
}

abbrev pub decreases-loop-row : goal.decreases-loop-row
decreases-loop-row l = l.span.end_row - l.row

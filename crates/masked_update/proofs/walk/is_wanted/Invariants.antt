use Rattle.std.specs.Prelude.{◌≤◌, ◌-◌}
use Rattle.cull_base.specs.Span.{has_tile}
use Rattle.masked_update.specs.Walk.{StayWhere, rows_before}
use Rattle.masked_update.proofs.walk.is_wanted.Given as goal

abbrev pub invariant-loop-row : goal.invariant-loop-row
invariant-loop-row l = record {
  from : l.fn.span.first_row ≤ l.row;
  stay : StayWhere (has_tile (rows_before l.fn.span l.row)) l.fn.reached.size l.fn.tri l.fn.canvas;
}

abbrev pub decreases-loop-row : goal.decreases-loop-row
decreases-loop-row l = l.fn.span.end_row - l.row

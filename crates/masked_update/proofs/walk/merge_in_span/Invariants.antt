use Rattle.std.specs.Prelude.{◌≤◌, ◌-◌}
use Rattle.cull_base.specs.Span.{has_tile}
use Rattle.masked_update.specs.Walk.{MergedWhere}
use Rattle.masked_update.proofs.Walks.{columns_before}
use Rattle.masked_update.proofs.walk.merge_in_span.Given as goal

abbrev pub invariant-loop-column : goal.invariant-loop-column
invariant-loop-column l = record {
  from : l.fn.span.first_column ≤ l.column;
  to : l.column ≤ l.fn.span.end_column;
  merged : MergedWhere (has_tile (columns_before l.fn.span l.column)) l.fn.reached.size l.fn.piece l.initial.canvas l.canvas;
}

abbrev pub decreases-loop-column : goal.decreases-loop-column
decreases-loop-column l = l.fn.span.end_column - l.column

use Rattle.cull_base.specs.Span.{has_tile}
use Rattle.masked_update.specs.Walk.{CountedWhere, rows_before}
use Rattle.masked_update.proofs.walk.count_in_span.Given as goal

abbrev pub invariant-loop-row : goal.invariant-loop-row
invariant-loop-row l = CountedWhere (has_tile (rows_before l.span l.row)) l.initial.canvas l.canvas

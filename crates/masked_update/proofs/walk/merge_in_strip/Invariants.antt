use Rattle.std.specs.Prelude.{◌≡◌}
use Rattle.cull_base.specs.Span.{has_tile, number_in}
use Rattle.masked_update.specs.Walk.{MergedWhere, rows_before}
use Rattle.masked_update.proofs.Tiles.{tile_with}
use Rattle.masked_update.proofs.walk.merge_in_strip.Given as goal

abbrev pub invariant-loop-row : goal.invariant-loop-row
invariant-loop-row l = record {
  merged : MergedWhere (has_tile (rows_before l.span l.row)) l.fn.reached.size l.piece l.initial.canvas l.canvas;
  number : l.number ≡ number_in l.initial.canvas.window (tile_with l.span.first_column l.row);
}

use Rattle.cull_base.specs.Span.{has_tile}
use Rattle.masked_update.specs.Walk.{MergedWhere}
use Rattle.masked_update.proofs.Walks.{rows_before}
use Rattle.maskcull_c.specs.Bands.{band_of}
use Rattle.maskcull_c.proofs.band.merge_in_span.Given as goal

abbrev pub invariant-loop-row : goal.invariant-loop-row
invariant-loop-row l = MergedWhere (has_tile (rows_before l.span l.row)) l.fn.reached.size l.piece (band_of l.window l.initial.tiles) (band_of l.window l.tiles)

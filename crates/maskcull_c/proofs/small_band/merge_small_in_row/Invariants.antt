use Rattle.masked_update.specs.Walk.{MergedWhere, is_in_row}
use Rattle.masked_update.proofs.Walks.{columns_before}
use Rattle.maskcull_c.specs.Bands.{band_of}
use Rattle.maskcull_c.proofs.small_band.merge_small_in_row.Given as goal

abbrev pub invariant-loop-column : goal.invariant-loop-column
invariant-loop-column l = MergedWhere (is_in_row (columns_before l.fn.span l.column) l.fn.row) l.fn.reached.size l.fn.piece (band_of l.fn.window l.initial.tiles) (band_of l.fn.window l.tiles)

use Rattle.tile_queues.specs.CellBins.{HasStored, is_passed}
use Rattle.tile_queues.proofs.cell_bin.store_by_edges.Given as goal

abbrev pub invariant-loop-row : goal.invariant-loop-row
invariant-loop-row g l = HasStored (is_passed l.span l.row l.span.first_column) l.member.cells.now l.member.list.now.list l.window l.member.index l.writers

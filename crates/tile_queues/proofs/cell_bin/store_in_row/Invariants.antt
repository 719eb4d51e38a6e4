use Rattle.tile_queues.specs.CellBins.{HasStored, is_passed}
use Rattle.tile_queues.proofs.cell_bin.store_in_row.Given as goal

abbrev pub invariant-loop-column : goal.invariant-loop-column
invariant-loop-column g l = HasStored (is_passed l.fn.span l.row l.column) l.member.cells.now l.member.list.now.list l.window l.member.index l.writers

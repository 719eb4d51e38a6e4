use Rattle.tile_cells.specs.Standing.{StandsAt}
use Rattle.cells_tests.proofs.tests.cells.draw_tile.Given as goal

abbrev pub invariant-loop-index : goal.invariant-loop-index
invariant-loop-index g l = StandsAt l.cells l.list.list l.index l.fn.tile l.writer

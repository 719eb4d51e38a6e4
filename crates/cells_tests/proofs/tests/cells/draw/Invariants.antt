use Rattle.tile_cells.proofs.Standing.{AreStandingTo}
use Rattle.cells_tests.proofs.tests.cells.draw.Given as goal

abbrev pub invariant-loop-tile : goal.invariant-loop-tile
invariant-loop-tile g l = AreStandingTo l.cells l.list.list l.fn.from l.fn.to l.tile l.writers.items

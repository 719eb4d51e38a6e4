use Rattle.std.proofs.Common.{◌≡◌}
use Rattle.tile_cells.specs.Standing.{IsReading}
use Rattle.cells_tests.proofs.tests.cells.never_falls.Given as goal

abbrev pub invariant-loop : goal.invariant-loop
invariant-loop g l = IsReading l.cells l.list.list l.reader × (l.snapshot.size ≡ l.list.list.size)

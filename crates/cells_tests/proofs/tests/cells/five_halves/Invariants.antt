use Rattle.std.proofs.Common.{◌≡◌}
use Rattle.cells_tests.proofs.tests.cells.five_halves.Given as goal

abbrev pub invariant-loop : goal.invariant-loop
invariant-loop l = l.list.room ≡ 5

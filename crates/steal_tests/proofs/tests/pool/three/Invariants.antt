use Rattle.std.proofs.Common.{◌≡◌}
use Rattle.steal_tests.proofs.tests.pool.three.Given as goal

abbrev pub invariant-loop-x : goal.invariant-loop-x
invariant-loop-x l = l.list.room ≡ 3

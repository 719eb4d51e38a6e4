use Rattle.std.proofs.Common.{◌≡◌}
use Rattle.sharing_tests.proofs.tests.bins.listed.Given as goal

abbrev pub invariant-loop-x : goal.invariant-loop-x
invariant-loop-x l = l.list.room ≡ 5

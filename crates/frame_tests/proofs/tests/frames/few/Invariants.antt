use Rattle.std.proofs.Common.{◌≡◌}
use Rattle.frame_tests.proofs.tests.frames.few.Given as goal

abbrev pub invariant-loop-x : goal.invariant-loop-x
invariant-loop-x l = l.list.room ≡ 6

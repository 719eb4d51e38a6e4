use Rattle.std.proofs.Common.{◌≡◌, ◌*◌}
use Rattle.frame_tests.proofs.tests.frames.columns.Given as goal

abbrev pub invariant-loop-time : goal.invariant-loop-time
invariant-loop-time l = l.list.room ≡ 4 * l.times

abbrev pub invariant-loop-x : goal.invariant-loop-x
invariant-loop-x l = l.list.room ≡ 4 * l.times

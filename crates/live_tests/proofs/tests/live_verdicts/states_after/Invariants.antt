use Rattle.std.proofs.Common.{◌≡◌, length}
use Rattle.cull_base.specs.Screen.{tile_count_of}
use Rattle.live_tests.proofs.tests.live_verdicts.states_after.Given as goal

abbrev pub invariant-loop-front : goal.invariant-loop-front
invariant-loop-front l = length l.states.items ≡ tile_count_of l.list.list.size

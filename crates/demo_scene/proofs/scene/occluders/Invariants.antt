use Rattle.std.proofs.Common.{◌≡◌, map}
use Rattle.std.specs.List.{range_with_len}
use Rattle.demo_scene.specs.Demo.{triangle_of}
use Rattle.demo_scene.proofs.scene.occluders.Given as goal

abbrev pub invariant-loop-i : goal.invariant-loop-i
invariant-loop-i l = l.occluders.items ≡ map triangle_of (range_with_len 0 l.i)

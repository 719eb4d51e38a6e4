use Rattle.std.proofs.Common.{◌≡◌, map}
use Rattle.std.specs.List.{range_with_len}
use Rattle.demo_scene.specs.Demo.{camera_of}
use Rattle.demo_scene.proofs.scene.cameras.Given as goal

abbrev pub invariant-loop-frame : goal.invariant-loop-frame
invariant-loop-frame l = l.cameras.items ≡ map camera_of (range_with_len 0 l.frame)

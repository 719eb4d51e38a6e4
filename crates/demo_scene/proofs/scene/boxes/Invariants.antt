use Rattle.std.proofs.Common.{◌≡◌, ◌*◌}
use Rattle.demo_scene.specs.Demo.{state_after, boxes_of}
use Rattle.demo_scene.proofs.scene.boxes.Given as goal

abbrev pub invariant-loop-box : goal.invariant-loop-box
invariant-loop-box l = record {
  made : l.boxes.items ≡ boxes_of l.fn.generator.state 0 l._box;
  drawn : l.generator.state ≡ state_after l.fn.generator.state (6 * l._box);
}

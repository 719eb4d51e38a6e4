use Rattle.std.proofs.Common.{◌≡◌, ◌*◌}
use Rattle.std.specs.List.{flat_map, range_with_len}
use Rattle.demo_scene.specs.Demo.{state_after, vertices_of}
use Rattle.demo_scene.proofs.scene.vertices.Given as goal

abbrev pub invariant-loop-triangle : goal.invariant-loop-triangle
invariant-loop-triangle l = record {
  made : l.vertices.items ≡ flat_map (vertices_of l.fn.generator.state) (range_with_len 0 l._triangle);
  drawn : l.generator.state ≡ state_after l.fn.generator.state (12 * l._triangle);
}

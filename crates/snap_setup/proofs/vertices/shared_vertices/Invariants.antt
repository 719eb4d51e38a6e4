use Rattle.std.proofs.Common.{◌≡◌, ◌≤◌, take, length, vec_capacity}
use Rattle.cull_base.specs.Grade.{top_of}
use Rattle.snap_setup.specs.Vertices.{screen_vertices}
use Rattle.snap_setup.proofs.vertices.shared_vertices.Given as goal

abbrev pub invariant-loop-v : goal.invariant-loop-v
invariant-loop-v l = record {
  made : l.vertices.items ≡ screen_vertices (take l.v-index l.shared) (top_of l.fn.occluders.grade) l.fn.occluders.near.distance l.fn.occluders.size;
  room : length l.shared ≤ vec_capacity l.vertices;
}

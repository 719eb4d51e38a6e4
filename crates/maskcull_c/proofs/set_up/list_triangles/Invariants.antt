use Rattle.std.proofs.Common.{◌≡◌, length, map, take}
use Rattle.cull_base.specs.Grade.{top_of}
use Rattle.snap_setup.specs.Pieces.{list_of_clips}
use Rattle.maskcull_c.specs.Given.{clip_of, tri_of}
use Rattle.maskcull_c.specs.Pieces.{AreListed}
use Rattle.maskcull_c.proofs.set_up.list_triangles.Given as goal

abbrev pub invariant-loop-triangle : goal.invariant-loop-triangle
invariant-loop-triangle l = record {
  count : l.at ≡ length (list_of_clips (map clip_of l.vertices) (take l.triangle-index (map tri_of l.triangles)) (top_of l.grade) l.near l.size l.winding);
  listed : AreListed 0 (list_of_clips (map clip_of l.vertices) (take l.triangle-index (map tri_of l.triangles)) (top_of l.grade) l.near l.size l.winding) l.initial.rooms l.rooms;
}

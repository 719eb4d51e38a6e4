use Rattle.std.proofs.Common.{◌≡◌, take}
use Rattle.mesh_query.specs.Meshes.{near_boxes, is_one_on_screen}
use Rattle.mesh_query.proofs.Hulls.{IsHull}
use Rattle.mesh_query.proofs.area.hull.Given as goal

abbrev pub invariant-loop-tri : goal.invariant-loop-tri
invariant-loop-tri l = record {
  met : l.met ≡ is_one_on_screen l.size (near_boxes l.near.distance l.size l.clips (take l.tri-index l.tris));
  hull : IsHull l.hull (near_boxes l.near.distance l.size l.clips (take l.tri-index l.tris));
}

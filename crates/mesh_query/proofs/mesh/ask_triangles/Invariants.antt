use Rattle.std.proofs.Common.{take}
use Rattle.cull_base.specs.Grade.{top_of}
use Rattle.masked_update.specs.Views.{state_in}
use Rattle.mesh_query.specs.Asked.{HasAsked, at_first}
use Rattle.mesh_query.specs.Meshes.{near_boxes, object_pieces}
use Rattle.mesh_query.proofs.mesh.ask_triangles.Given as goal

abbrev pub invariant-loop-tri : goal.invariant-loop-tri
invariant-loop-tri g l = let tris = take l.tri-index l.tris in
    HasAsked (state_in l.size (g.V.TileView.tile_of l.view)) l.size (object_pieces (top_of l.grade) l.near.distance l.size l.clips tris) (near_boxes l.near.distance l.size l.clips tris) at_first l.now

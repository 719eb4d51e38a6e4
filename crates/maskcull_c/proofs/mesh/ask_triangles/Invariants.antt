use Rattle.std.proofs.Common.{map, take}
use Rattle.cull_base.specs.Grade.{top_of}
use Rattle.masked_update.specs.TileOf.{tile_at}
use Rattle.masked_update.specs.Views.{state_in}
use Rattle.mesh_query.specs.Asked.{HasAsked, at_first}
use Rattle.mesh_query.specs.Meshes.{near_boxes, object_pieces}
use Rattle.maskcull_c.specs.Given.{clip_of, tri_of}
use Rattle.maskcull_c.proofs.mesh.ask_triangles.Given as goal

abbrev pub invariant-loop-triangle : goal.invariant-loop-triangle
invariant-loop-triangle l = let clips = map clip_of l.vertices in let tris = take l.triangle-index (map tri_of l.triangles) in
    HasAsked (state_in l.size (tile_at l.tiles)) l.size (object_pieces (top_of l.grade) l.near l.size clips tris) (near_boxes l.near l.size clips tris) at_first l.now

-- What is asked of the tiles: the shape of a rectangle, of a box and of a mesh, and the verdict on a shape.
use Rattle.std.specs.Prelude.{ℕ, ℤ, List, map, Bool}
use Rattle.std.specs.List.{list_all, list_any}
use Rattle.cull_base.specs.declared.scene_types.Verdict.{Verdict}
use Rattle.cull_base.specs.Grade.{top_of}
use Rattle.cull_base.specs.Guard.{is_past_guard}
use Rattle.cull_base.specs.NearPlane.{is_behind}
use Rattle.cull_base.specs.Screen.{Dimensions}
use Rattle.cull_base.specs.Shape.{Shape, verdict_of}
use Rattle.masked_update.specs.TileOf.{TileOf, tile_at}
use Rattle.masked_update.specs.Views.{state_in}
use Rattle.mesh_query.specs.Meshes.{mesh_shape, vertices_of}
use Rattle.rect_query.specs.Boxes.{box_shape}
use Rattle.rect_query.specs.Rectangles.{rectangle_shape}
use Rattle.maskcull_c.specs.declared.given.Setup.{Setup}
use Rattle.maskcull_c.specs.declared.given.Vertex.{Vertex}
use Rattle.maskcull_c.specs.declared.given.Triangle.{Triangle}
use Rattle.maskcull_c.specs.declared.given.Area.{Area}
use Rattle.maskcull_c.specs.declared.given.Corners.{Corners}
use Rattle.maskcull_c.specs.Given.{size_of, grade_of, clip_of, tri_of, rect_of}

abbrev pub shape_of_area : Setup → Area → ℤ → Shape
shape_of_area s area w = rectangle_shape (top_of (grade_of s)) s.near (size_of s) (rect_of area) w

abbrev pub shape_of_box : Setup → Corners → Shape
shape_of_box s box = box_shape (top_of (grade_of s)) s.near (size_of s) (map clip_of box.corners)

abbrev pub shape_of_mesh : Setup → List Vertex → List Triangle → Shape
shape_of_mesh s vertices triangles = mesh_shape (top_of (grade_of s)) s.near (size_of s) (map clip_of vertices) (map tri_of triangles)

-- the verdict by the states that these tiles have
abbrev pub verdict_over : Dimensions → List TileOf → Shape → Verdict
verdict_over size tiles shape = verdict_of size (state_in size (tile_at tiles)) shape

-- of a triangle, all vertices are behind the near plane, and one is past the guard
unfoldable pub is_all_behind : ℕ → List Vertex → Triangle → Bool
is_all_behind near vertices t = list_all (is_behind near) (vertices_of (map clip_of vertices) (tri_of t))

unfoldable pub is_part_past_guard : ℕ → List Vertex → Triangle → Bool
is_part_past_guard near vertices t = list_any (λ v. is_past_guard v near) (vertices_of (map clip_of vertices) (tri_of t))

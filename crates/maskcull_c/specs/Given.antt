-- What a caller hands over: the screen and how triangles are taken, vertices, triangles, a rectangle, a box.
use Rattle.std.specs.Prelude.{ℕ, ◌≤◌, ◌<◌, ◌/◌, ◌%◌, cond, nat_eq, List, [], ◌∷◌, map}
use Rattle.cull_base.specs.declared.clip.ClipVertex.{ClipVertex}
use Rattle.cull_base.specs.declared.nearness.Grade.{Grade}
use Rattle.cull_base.specs.declared.nearness.Grade.TheVariants.{Narrow, Wide}
use Rattle.cull_base.specs.declared.rect.Rect.{Rect}
use Rattle.cull_base.specs.declared.scene_types.Tri.{Tri}
use Rattle.cull_base.specs.declared.triangle.Winding.{Winding}
use Rattle.cull_base.specs.declared.triangle.Winding.TheVariants.{Both, DropClockwise, DropCounter}
use Rattle.cull_base.specs.Grade.{top_of}
use Rattle.cull_base.specs.Piece.{Piece}
use Rattle.cull_base.specs.Screen.{Dimensions, IsSize}
use Rattle.snap_setup.specs.Pieces.{list_of_clips}
use Rattle.maskcull_c.specs.declared.given.Setup.{Setup}
use Rattle.maskcull_c.specs.declared.given.Vertex.{Vertex}
use Rattle.maskcull_c.specs.declared.given.Triangle.{Triangle}
use Rattle.maskcull_c.specs.declared.given.Area.{Area}

-- A screen, a near distance, a winding and a grade that aren't refused. Where the grade is wide, 16 is added to the
-- winding.
pub record IsSetup (s : Setup) : Type 0 where
  pub size : IsSize s.width s.height
  pub near_least : 1 ≤ s.near
  pub near_most : s.near ≤ 1024
  pub winding : s.winding % 16 ≤ 2
  pub grade : s.winding / 16 ≤ 1

abbrev pub size_of : Setup → Dimensions
size_of s = record { width = s.width; height = s.height }

abbrev pub winding_of : ℕ → Winding
winding_of n = cond (nat_eq (n % 16) 0) Both (cond (nat_eq (n % 16) 1) DropClockwise DropCounter)

abbrev pub grade_of : Setup → Grade
grade_of s = cond (nat_eq (s.winding / 16) 0) Narrow Wide

abbrev pub clip_of : Vertex → ClipVertex
clip_of v = record { x = v.x; y = v.y; w = v.w }

abbrev pub tri_of : Triangle → Tri
tri_of t = record { 0 = t.a ∷ t.b ∷ t.c ∷ [] }

abbrev pub rect_of : Area → Rect
rect_of a = record { x0 = a.x0; y0 = a.y0; x1 = a.x1; y1 = a.y1 }

-- each vertex of the triangle is among n
pub record IsAmong (n : ℕ) (t : Triangle) : Type 0 where
  pub a : t.a < n
  pub b : t.b < n
  pub c : t.c < n

-- the occluder pieces of all triangles, one triangle after another
abbrev pub pieces_drawn : Setup → List Vertex → List Triangle → List Piece
pieces_drawn s vertices triangles =
    list_of_clips (map clip_of vertices) (map tri_of triangles) (top_of (grade_of s)) s.near (size_of s) (winding_of s.winding)

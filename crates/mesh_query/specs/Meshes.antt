-- The shape of a mesh, by its triangles among clip vertices. The top is that of the scene's grade of nearness.
use Rattle.std.specs.Prelude.{ℕ, List, [], ◌∷◌, map, Bool, cond, Option, Some, None}
use Rattle.std.specs.Option.{option_to_list}
use Rattle.std.specs.List.{list_all, list_any, flat_map}
use Rattle.cull_base.specs.declared.clip.ClipVertex.{ClipVertex}
use Rattle.cull_base.specs.declared.rect.Rect.{Rect}
use Rattle.cull_base.specs.declared.scene_types.Tri.{Tri}
use Rattle.cull_base.specs.declared.scene_types.Verdict.{Verdict}
use Rattle.cull_base.specs.declared.scene_types.Verdict.TheVariants.{Visible, Outside}
use Rattle.cull_base.specs.declared.triangle.Side.TheVariants.{Object}
use Rattle.cull_base.specs.declared.triangle.Winding.TheVariants.{Both}
use Rattle.cull_base.specs.Guard.{is_past_guard}
use Rattle.cull_base.specs.NearPlane.{is_behind}
use Rattle.cull_base.specs.Screen.{Dimensions, screen_of}
use Rattle.cull_base.specs.Rectangle.{meets}
use Rattle.cull_base.specs.Piece.{Piece, least_of, greatest_of}
use Rattle.cull_base.specs.Shape.{Shape, AlwaysOutside, AlwaysVisible, Pieces}
use Rattle.snap_setup.specs.Pieces.{pieces_of, near_box_of, clip_at}

-- a test of the vertices of some triangles: it holds at each, and it holds at one
abbrev pub vertices_of : List ClipVertex → Tri → List ClipVertex
vertices_of clips t = clip_at clips t 0 ∷ clip_at clips t 1 ∷ clip_at clips t 2 ∷ []

abbrev pub at_each_vertex : List ClipVertex → (ClipVertex → Bool) → List Tri → Bool
at_each_vertex clips test tris = list_all (λ t. list_all test (vertices_of clips t)) tris

abbrev pub at_some_vertex : List ClipVertex → (ClipVertex → Bool) → List Tri → Bool
at_some_vertex clips test tris = list_any (λ t. list_any test (vertices_of clips t)) tris

-- the box of the part of a triangle in front of the near plane, and those of some
abbrev pub near_box_at : ℕ → Dimensions → List ClipVertex → Tri → Option Rect
near_box_at near size clips t = near_box_of (clip_at clips t 0) (clip_at clips t 1) (clip_at clips t 2) near size

abbrev pub near_boxes : ℕ → Dimensions → List ClipVertex → List Tri → List Rect
near_boxes near size clips tris = flat_map (λ t. option_to_list (near_box_at near size clips t)) tris

-- the pieces of a triangle as an object, and those of some
abbrev pub object_pieces_at : ℕ → ℕ → Dimensions → List ClipVertex → Tri → List Piece
object_pieces_at top near size clips t = pieces_of (clip_at clips t 0) (clip_at clips t 1) (clip_at clips t 2) top near size Both Object

abbrev pub object_pieces : ℕ → ℕ → Dimensions → List ClipVertex → List Tri → List Piece
object_pieces top near size clips tris = flat_map (object_pieces_at top near size clips) tris

-- the smallest rectangle that holds some others, each of which has a pixel
abbrev pub hull_of : List Rect → Rect
hull_of rects = record {
  x0 = least_of (map (λ r. r.x0) rects);
  y0 = least_of (map (λ r. r.y0) rects);
  x1 = greatest_of (map (λ r. r.x1) rects);
  y1 = greatest_of (map (λ r. r.y1) rects);
}

-- one of some rectangles has a pixel in the screen
abbrev pub is_one_on_screen : Dimensions → List Rect → Bool
is_one_on_screen size rects = list_any (λ r. meets r (screen_of size)) rects

-- A mesh is outside where all is behind the near plane, or where it has no triangle; else visible where a vertex is past the guard; else
-- outside where no near box meets the screen; else it is its pieces, within the hull of the boxes.
unfoldable pub mesh_shape : ℕ → ℕ → Dimensions → List ClipVertex → List Tri → Shape
mesh_shape top near size clips tris =
    cond (at_each_vertex clips (is_behind near) tris) AlwaysOutside
    (cond (at_some_vertex clips (λ v. is_past_guard v near) tris) AlwaysVisible
    (cond (is_one_on_screen size (near_boxes near size clips tris))
    (Pieces (object_pieces top near size clips tris) (hull_of (near_boxes near size clips tris)))
    AlwaysOutside))

-- what the vertices alone decide
abbrev pub early_verdict_of : ℕ → List ClipVertex → List Tri → Option Verdict
early_verdict_of near clips tris =
    cond (at_each_vertex clips (is_behind near) tris) (Some Outside)
    (cond (at_some_vertex clips (λ v. is_past_guard v near) tris) (Some Visible) None)

-- The pieces of a triangle, of a list of triangles, and the box of what is in front of the near plane.
use Rattle.std.specs.Prelude.{◌≡◌, ◌<◌, ℕ, ℤ, pos, ◌⊎◌, IsTrue, List, [], ◌∷◌, map, filter, slice_index}
use Rattle.std.specs.Prelude.{Bool, true, false, not, cond, ◌&&◌, ◌||◌, int_lt, Option, Some, None}
use Rattle.std.specs.List.{swap, flat_map, All}
use Rattle.std.specs.Ordering.{int_eq}
use Rattle.cull_base.specs.declared.clip.ClipVertex.{ClipVertex}
use Rattle.cull_base.specs.declared.triangle.Side.{Side}
use Rattle.cull_base.specs.declared.triangle.Side.TheVariants.{Occluder}
use Rattle.cull_base.specs.declared.triangle.Winding.{Winding}
use Rattle.cull_base.specs.declared.triangle.Winding.TheVariants.{Both, DropClockwise, DropCounter}
use Rattle.cull_base.specs.declared.rect.Rect.{Rect}
use Rattle.cull_base.specs.declared.scene_types.Tri.{Tri}
use Rattle.cull_base.specs.Screen.{Dimensions}
use Rattle.cull_base.specs.Guard.{is_past_guard}
use Rattle.cull_base.specs.Piece.{Piece, doubled_area, box_around}
use Rattle.near_clip.specs.declared.hom_point.HomPoint.{HomPoint}
use Rattle.near_clip.specs.NearPart.{near_part, corner, is_in_front}
use Rattle.snap_setup.specs.declared.snapping.Snapped.{Snapped}
use Rattle.snap_setup.specs.Snapping.{snapped, screen_x, screen_y}

-- three snapped points as they stand, whatever the area
abbrev pub triangle : Snapped → Snapped → Snapped → Piece
triangle a b c = record { xs = a.x ∷ b.x ∷ c.x ∷ []; ys = a.y ∷ b.y ∷ c.y ∷ []; qs = a.q ∷ b.q ∷ c.q ∷ [] }

-- the triangles of a polygon of three or four points
abbrev pub triangles_of : List Snapped → List Piece
triangles_of (p0 ∷ p1 ∷ p2 ∷ []) = triangle p0 p1 p2 ∷ []
triangles_of (p0 ∷ p1 ∷ p2 ∷ p3 ∷ []) = triangle p0 p1 p2 ∷ triangle p0 p2 p3 ∷ []
triangles_of _ = []

-- a positive area is clockwise on the screen
abbrev pub is_dropped : Winding → ℤ → Bool
is_dropped Both area = false
is_dropped DropClockwise area = int_lt (pos 0) area
is_dropped DropCounter area = int_lt area (pos 0)

-- it gives no piece: it has area 0 or a dropped winding
abbrev pub is_left_out : Winding → Piece → Bool
is_left_out winding t = int_eq (doubled_area t) (pos 0) || is_dropped winding (doubled_area t)

-- with its second and third point exchanged
abbrev pub exchanged : Piece → Piece
exchanged t = record { xs = swap t.xs 1 2; ys = swap t.ys 1 2; qs = swap t.qs 1 2 }

-- turned so that the area isn't negative
abbrev pub turned : Piece → Piece
turned t = cond (int_lt (doubled_area t) (pos 0)) (exchanged t) t

-- the piece of a triangle, if it has one
abbrev pub piece_if : Winding → Piece → Option Piece
piece_if winding t = cond (is_left_out winding t) None (Some (turned t))

-- the pieces of a snapped polygon: each of its triangles is judged by itself
unfoldable pub kept_of : List Snapped → Winding → List Piece
kept_of points winding = map turned (filter (λ t. not (is_left_out winding t)) (triangles_of points))

-- the polygon in front of the near plane, on the screen, by the top of the scene's grade of nearness
unfoldable pub snapped_part : ClipVertex → ClipVertex → ClipVertex → ℕ → ℕ → Dimensions → Side → List Snapped
snapped_part v0 v1 v2 top near size side = map (λ p. snapped p top near size side) (near_part v0 v1 v2 near)

abbrev pub is_any_past_guard : ClipVertex → ClipVertex → ClipVertex → ℕ → Bool
is_any_past_guard v0 v1 v2 near = is_past_guard v0 near || (is_past_guard v1 near || is_past_guard v2 near)

-- the pieces of a triangle: none where a vertex is past the guard
unfoldable pub pieces_of : ClipVertex → ClipVertex → ClipVertex → ℕ → ℕ → Dimensions → Winding → Side → List Piece
pieces_of v0 v1 v2 top near size winding side =
    cond (is_any_past_guard v0 v1 v2 near) [] (kept_of (snapped_part v0 v1 v2 top near size side) winding)

abbrev pub is_all_in_front : ClipVertex → ClipVertex → ClipVertex → ℕ → Bool
is_all_in_front v0 v1 v2 near = is_in_front v0 near && (is_in_front v1 near && is_in_front v2 near)

-- all of a triangle is behind the near plane
abbrev pub IsBehind : ClipVertex → ClipVertex → ClipVertex → ℕ → Type 0
IsBehind v0 v1 v2 near = (is_in_front v0 near ≡ false) × (is_in_front v1 near ≡ false) × (is_in_front v2 near ≡ false)

-- Why a triangle gives no piece: a vertex is past the guard, all of it is behind the near plane, or each triangle of the
-- polygon is left out.
abbrev pub GivesNone : ClipVertex → ClipVertex → ClipVertex → ℕ → ℕ → Dimensions → Winding → Side → Type 0
GivesNone v0 v1 v2 top near size winding side =
    IsTrue (is_any_past_guard v0 v1 v2 near)
    ⊎ (IsBehind v0 v1 v2 near
    ⊎ All (λ t. is_left_out winding t ≡ true) (triangles_of (snapped_part v0 v1 v2 top near size side)))

-- the pixels that a polygon may reach on the screen, whatever its area; none if it has no points
abbrev pub polygon_box : List HomPoint → Dimensions → Option Rect
polygon_box [] size = None
polygon_box (p ∷ ps) size =
    Some (box_around (map (λ p. screen_x p size) (p ∷ ps)) (map (λ p. screen_y p size) (p ∷ ps)))

-- the box of the polygon in front of the near plane; none where all of the triangle is behind it
unfoldable pub near_box_of : ClipVertex → ClipVertex → ClipVertex → ℕ → Dimensions → Option Rect
near_box_of v0 v1 v2 near size = polygon_box (near_part v0 v1 v2 near) size

-- vertex k of a triangle, looked up among the clips
abbrev pub clip_at : List ClipVertex → Tri → ℕ → ClipVertex
clip_at clips t k = corner clips (slice_index t.0 k)

-- each vertex of the triangle is among n clips
abbrev pub HasClips : ℕ → Tri → Type 0
HasClips n t = All (λ i. i < n) t.0

-- the occluder pieces of one of the triangles
abbrev pub pieces_at : List ClipVertex → ℕ → ℕ → Dimensions → Winding → Tri → List Piece
pieces_at clips top near size winding t =
    pieces_of (clip_at clips t 0) (clip_at clips t 1) (clip_at clips t 2) top near size winding Occluder

-- those of all triangles, one triangle after another
unfoldable pub list_of_clips : List ClipVertex → List Tri → ℕ → ℕ → Dimensions → Winding → List Piece
list_of_clips clips tris top near size winding = flat_map (pieces_at clips top near size winding) tris

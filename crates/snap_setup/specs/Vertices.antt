-- The clip vertices of a frame on its screen, each by itself.
use Rattle.std.specs.Prelude.{◌≡◌, ℕ, pos, ◌⊎◌, List, [], map, Bool, false, cond, not, ◌&&◌, ◌||◌, slice_index, slice_index_or}
use Rattle.cull_base.specs.declared.clip.ClipVertex.{ClipVertex}
use Rattle.cull_base.specs.declared.scene_types.Tri.{Tri}
use Rattle.cull_base.specs.declared.triangle.Side.TheVariants.{Occluder}
use Rattle.cull_base.specs.Grade.{top_of}
use Rattle.cull_base.specs.Guard.{is_past_guard}
use Rattle.cull_base.specs.Screen.{Dimensions}
use Rattle.near_clip.specs.NearPart.{is_in_front, whole}
use Rattle.snap_setup.specs.declared.occluders.Occluders.{Occluders}
use Rattle.snap_setup.specs.declared.snapping.Snapped.{Snapped}
use Rattle.snap_setup.specs.declared.vertices.ScreenVertex.{ScreenVertex}
use Rattle.snap_setup.specs.declared.triangle.Corners.{Corners}
use Rattle.snap_setup.specs.declared.triangle.ScreenCorners.{ScreenCorners}
use Rattle.snap_setup.specs.Snapping.{snapped}

-- in front of the near plane, and not past the guard
abbrev pub is_placed : ClipVertex → ℕ → Bool
is_placed v near = is_in_front v near && not (is_past_guard v near)

-- where a vertex without a place is said to be
abbrev pub nowhere : Snapped
nowhere = record { x = pos 0; y = pos 0; q = 0 }

-- a vertex as a corner of occluders, by the top of the scene's grade of nearness
unfoldable pub screen_vertex : ClipVertex → ℕ → ℕ → Dimensions → ScreenVertex
screen_vertex v top near size =
    record {
      at = cond (is_placed v near) (snapped (whole v) top near size Occluder) nowhere;
      placed = is_placed v near;
      past = is_past_guard v near;
    }

abbrev pub screen_vertices : List ClipVertex → ℕ → ℕ → Dimensions → List ScreenVertex
screen_vertices clips top near size = map (λ v. screen_vertex v top near size) clips

-- all of a frame's vertices, or none
abbrev pub AreShared : Occluders → List ScreenVertex → Type 0
AreShared o vertices = (vertices ≡ []) ⊎ (vertices ≡ screen_vertices o.clips.now (top_of o.grade) o.near.distance o.size)

-- corner k of a triangle, looked up among the vertices
abbrev pub vertex_at : List ScreenVertex → Tri → ℕ → ScreenVertex
vertex_at vertices t k = slice_index_or vertices (slice_index t.0 k) (record { at = nowhere; placed = false; past = false })

-- all have a place, one has, one is past the guard
abbrev pub are_all_placed : ScreenCorners → Bool
are_all_placed c = c.v0.now.placed && (c.v1.now.placed && c.v2.now.placed)

abbrev pub is_any_placed : ScreenCorners → Bool
is_any_placed c = c.v0.now.placed || (c.v1.now.placed || c.v2.now.placed)

abbrev pub is_any_past : ScreenCorners → Bool
is_any_past c = c.v0.now.past || (c.v1.now.past || c.v2.now.past)

-- they are those of a triangle's clip vertices
pub record AreCornersOf (t : Corners) (top near : ℕ) (size : Dimensions) (c : ScreenCorners) : Type 0 where
  pub first : c.v0.now ≡ screen_vertex t.v0.now top near size
  pub second : c.v1.now ≡ screen_vertex t.v1.now top near size
  pub third : c.v2.now ≡ screen_vertex t.v2.now top near size

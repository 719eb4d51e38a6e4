-- Views that hold the tiles of a form's area, and the triangles of meshes.
use Rattle.std.proofs.Common.{◌≡◌, ℕ, zero, suc, ◌<◌, List, [], ◌∷◌, length, drop, get_or, Bool, true, false, cond, arith, refl, ap, ◌∙◌, subst}
use Rattle.std.specs.Prelude.{IfSome, slice_get}
use Rattle.std.specs.List.{All}
use Rattle.std.proofs.lemmas.List.{length-map}
use Rattle.std.proofs.lemmas.List.Elements.{All-take, All-drop}
use Rattle.cull_base.specs.declared.clip.ClipVertex.{ClipVertex}
use Rattle.cull_base.specs.declared.rect.Rect.{Rect}
use Rattle.cull_base.specs.declared.scene_types.Object.{Object}
use Rattle.cull_base.specs.declared.scene_types.Tri.{Tri}
use Rattle.cull_base.specs.Screen.{Dimensions, screen_of, tile_rect_of}
use Rattle.cull_base.specs.Rectangle.{meets, cut_of, no_pixels}
use Rattle.cull_base.specs.Shape.{Shape, AlwaysOutside, Flat as FlatShape, flat_shape, area_of}
use Rattle.masked_update.specs.Views.{HoldsMet}
use Rattle.snap_setup.specs.Pieces.{HasClips}
use Rattle.scene_reader.specs.Layout.{Parts, IsScene}
use Rattle.mesh_query.proofs.Boxes.{same_within, tile_meets_screen, tile_meets_cut}
use Rattle.cull_report.specs.declared.form.Form.{Form}
use Rattle.cull_report.specs.declared.form.Form.TheVariants.{Outside, Visible, Flat, Mesh}
use Rattle.cull_report.specs.Forms.{range_of, shape_of_form, IsFlatForm}
use Rattle.cull_report.specs.Scene.{size_of, frame_clips}

-- the area of a rectangle with one nearness
pub flat_area : (size : Dimensions) (r : Rect) (q : ℕ) → area_of size (flat_shape size r q) ≡ cond (meets r (screen_of size)) (cut_of r (screen_of size)) no_pixels
flat_area size r q = by (meets r (screen_of size))
  where
    by : (m : Bool) → area_of size (cond m (FlatShape r q) AlwaysOutside) ≡ cond m (cut_of r (screen_of size)) no_pixels
    by true = refl
    by false = refl

-- a view that holds the tiles of what of a rectangle is in the screen holds those that the rectangle meets
pub flat_holds : (held : ℕ → Bool) (size : Dimensions) (r : Rect) (q : ℕ) → HoldsMet held size (area_of size (flat_shape size r q)) → HoldsMet held size r
flat_holds held size r q holds n lt met =
    let on = tile_meets_screen size r n met in
    let area : area_of size (flat_shape size r q) ≡ cut_of r (screen_of size) = flat_area size r q ∙ ap (λ b. cond b (cut_of r (screen_of size)) no_pixels) on in
    holds n lt (ap (λ a. meets a (tile_rect_of size n)) area ∙ tile_meets_cut size r r n (same_within r) met)

pub clip_count : (s : Parts) (frame : ℕ) → length (frame_clips s frame) ≡ length s.vertices
unfolding frame_clips
clip_count s frame = simp length-map

pub has_clips : (n m : ℕ) (t : Tri) → n ≡ m → All (λ v. v < m) t.0 → HasClips n t
has_clips n m t e h = rw e h

-- the vertices of a range of object triangles are among the clip vertices
pub range_has_clips : (s : Parts) (frame first count : ℕ) (clips : List ClipVertex) → IsScene s → clips ≡ frame_clips s frame → All (HasClips (length clips)) (range_of s.object_tris first count)
range_has_clips s frame first count clips scene e =
    let n : length clips ≡ length s.vertices = ap length e ∙ clip_count s frame in
    let all : All (HasClips (length clips)) s.object_tris = λ k d lt. has_clips (length clips) (length s.vertices) _ n (scene.object_tris k d lt).1 in
    All-take (HasClips (length clips)) count (drop first s.object_tris) (All-drop (HasClips (length clips)) first s.object_tris all)

-- a form that is no mesh stands for its shape
pub flat_form : (s : Parts) (frame : ℕ) (form : Form) (shape : Shape) → IsFlatForm (size_of s) form shape → shape_of_form s frame form ≡ shape
flat_form s frame Outside shape h = h
flat_form s frame Visible shape h = h
flat_form s frame (Flat r q) shape h = h
flat_form s frame (Mesh first count) shape h = absurd h

-- a fact of the object at a place
pub at_place : (P : Object → Type 0) (os : List Object) (k : ℕ) (o : Object) → k < length os → o ≡ get_or os k o → P o → IfSome (slice_get os k) P
at_place P [] k o lt e p = absurd (omega (arith, lt))
at_place P (x ∷ xs) zero o lt e p = subst P e p
at_place P (x ∷ xs) (suc k) o lt e p = at_place P xs k o (omega (arith, lt)) e p

pub from_place : (P : Object → Type 0) (os : List Object) (k : ℕ) (d : Object) → k < length os → IfSome (slice_get os k) P → P (get_or os k d)
from_place P [] k d lt h = absurd (omega (arith, lt))
from_place P (x ∷ xs) zero d lt h = h
from_place P (x ∷ xs) (suc k) d lt h = from_place P xs k d (omega (arith, lt)) h

-- The verdict of a mesh, by what is known after all of its triangles.
use Rattle.std.proofs.Common.{◌≡◌, ℕ, ◌<◌, ◌≤◌, List, [], Bool, true, false, ◌||◌, not, cond, Some, None, refl, ap, ◌∙◌, inl, inr}
use Rattle.std.specs.Prelude.{IfSome, is_some}
use Rattle.std.specs.Option.{option_to_list}
use Rattle.std.specs.List.{All, Contains}
use Rattle.std.specs.Cmp.{both_ways as equal}
use Rattle.std.proofs.lemmas.Bool.{both_ways, false_from_ne_true}
use Rattle.cull_base.specs.declared.clip.ClipVertex.{ClipVertex}
use Rattle.cull_base.specs.declared.nearness.Grade.{Grade}
use Rattle.cull_base.specs.declared.place.Sub.{Sub}
use Rattle.cull_base.specs.declared.rect.Rect.{Rect}
use Rattle.cull_base.specs.declared.scene_types.Tri.{Tri}
use Rattle.cull_base.specs.declared.scene_types.Verdict.{Verdict}
use Rattle.cull_base.specs.declared.scene_types.Verdict.TheVariants.{Visible, Occluded, Outside}
use Rattle.cull_base.specs.declared.triangle.Side.TheVariants.{Object}
use Rattle.cull_base.specs.declared.triangle.Winding.TheVariants.{Both}
use Rattle.cull_base.specs.Grade.{top_of}
use Rattle.cull_base.specs.Guard.{is_past_guard}
use Rattle.cull_base.specs.NearPlane.{is_behind}
use Rattle.cull_base.specs.Screen.{Dimensions, IsSize, screen_of, tile_rect_of}
use Rattle.cull_base.specs.Rectangle.{meets, cut_of, no_pixels}
use Rattle.cull_base.specs.Piece.{Piece, IsPiece, middle, touches}
use Rattle.cull_base.specs.Depth.{high_of}
use Rattle.cull_base.specs.State.{State, hides}
use Rattle.cull_base.specs.Pixels.{sub_of_pixel, sample_of_pixel}
use Rattle.cull_base.specs.Shape.{AlwaysOutside, AlwaysVisible, Pieces, has_sample, is_hidden_at, is_hidden, area_of, verdict_of}
use Rattle.cull_base.proofs.HiddenObjects.{implied, implies, hidden_each, hidden_if, hidden_some}
use Rattle.masked_update.specs.Views.{HoldsMet}
use Rattle.snap_setup.proofs.PieceBoxes.{piece_in_near_box}
use Rattle.snap_setup.proofs.ValidPieces.{pieces_are, held_by_member}
use Rattle.snap_setup.specs.Pieces.{clip_at}
use Rattle.mesh_query.specs.declared.mesh.Progress.{Progress}
use Rattle.mesh_query.specs.Asked.{Asked, SomeShows, HasAsked, TouchedBy, TouchesPixel, hides_piece, at_first}
use Rattle.mesh_query.specs.Meshes.{at_each_vertex, at_some_vertex, near_box_at, near_boxes, object_pieces, object_pieces_at, is_one_on_screen, hull_of, mesh_shape, early_verdict_of}
use Rattle.mesh_query.proofs.Boxes.{touched_meets, tile_meets_screen, tile_meets_cut, hull_holds}
use Rattle.mesh_query.proofs.Members.{first_of_list, one_holds, one_that_holds, each_holds, each_from, part_of_joined, from_joined, all_some}

-- what the vertices decide
pub early_decides : (top near : ℕ) (size : Dimensions) (clips : List ClipVertex) (tris : List Tri) (f : Sub → State) (v : Verdict) → early_verdict_of near clips tris ≡ Some v → verdict_of size f (mesh_shape top near size clips tris) ≡ v
unfolding mesh_shape
early_decides top near size clips tris f v e = by (at_each_vertex clips (is_behind near) tris) (at_some_vertex clips (λ u. is_past_guard u near) tris) e
  where
    by : (a b : Bool) → cond a (Some Outside) (cond b (Some Visible) None) ≡ Some v → verdict_of size f (cond a AlwaysOutside (cond b AlwaysVisible (cond (is_one_on_screen size (near_boxes near size clips tris)) (Pieces (object_pieces top near size clips tris) (hull_of (near_boxes near size clips tris))) AlwaysOutside))) ≡ v
    by true b e = cc
    by false true e = cc
    by false false e = absurd cc

pub early_area : (top near : ℕ) (size : Dimensions) (clips : List ClipVertex) (tris : List Tri) → is_some (early_verdict_of near clips tris) ≡ true → area_of size (mesh_shape top near size clips tris) ≡ no_pixels
unfolding mesh_shape
early_area top near size clips tris e = by (at_each_vertex clips (is_behind near) tris) (at_some_vertex clips (λ u. is_past_guard u near) tris) e
  where
    by : (a b : Bool) → is_some (cond a (Some Outside) (cond b (Some Visible) None)) ≡ true → area_of size (cond a AlwaysOutside (cond b AlwaysVisible (cond (is_one_on_screen size (near_boxes near size clips tris)) (Pieces (object_pieces top near size clips tris) (hull_of (near_boxes near size clips tris))) AlwaysOutside))) ≡ no_pixels
    by true b e = refl
    by false true e = refl
    by false false e = absurd cc

-- what they leave open
pub record IsOpen (near : ℕ) (clips : List ClipVertex) (tris : List Tri) : Type 0 where
  pub front : at_each_vertex clips (is_behind near) tris ≡ false
  pub guarded : at_some_vertex clips (λ v. is_past_guard v near) tris ≡ false

pub early_open : (near : ℕ) (clips : List ClipVertex) (tris : List Tri) → is_some (early_verdict_of near clips tris) ≡ false → IsOpen near clips tris
early_open near clips tris e = let (a, b) = by (at_each_vertex clips (is_behind near) tris) (at_some_vertex clips (λ v. is_past_guard v near) tris) e in record { front = a; guarded = b }
  where
    by : (a b : Bool) → is_some (cond a (Some Outside) (cond b (Some Visible) None)) ≡ false → (a ≡ false) × (b ≡ false)
    by true b e = absurd cc
    by false true e = absurd cc
    by false false e = (refl, refl)

pub open_shape : (top near : ℕ) (size : Dimensions) (clips : List ClipVertex) (tris : List Tri) → IsOpen near clips tris
    → mesh_shape top near size clips tris ≡ cond (is_one_on_screen size (near_boxes near size clips tris)) (Pieces (object_pieces top near size clips tris) (hull_of (near_boxes near size clips tris))) AlwaysOutside
unfolding mesh_shape
open_shape top near size clips tris h = let a = h.front in let b = h.guarded in rw (a, b) refl

-- the near box of a triangle is among those of the mesh
pub box_among : (near : ℕ) (size : Dimensions) (clips : List ClipVertex) (tris : List Tri) (t : Tri) (r : Rect) → Contains tris t → near_box_at near size clips t ≡ Some r → Contains (near_boxes near size clips tris) r
box_among near size clips tris t r m e = part_of_joined (λ u. option_to_list (near_box_at near size clips u)) tris t r m (rw e (first_of_list r []))

-- a view that holds the tiles of the area holds those that a near box meets
pub holds_boxes : (held : ℕ → Bool) (top near : ℕ) (size : Dimensions) (clips : List ClipVertex) (tris : List Tri) → IsOpen near clips tris → HoldsMet held size (area_of size (mesh_shape top near size clips tris))
    → All (λ t. IfSome (near_box_at near size clips t) (λ r. HoldsMet held size r)) tris
holds_boxes held top near size clips tris left holds = all_some (near_box_at near size clips) (λ r. HoldsMet held size r) tris (λ t r m e n lt met.
    let among = box_among near size clips tris t r m e in
    let on = one_holds (λ a. meets a (screen_of size)) (near_boxes near size clips tris) r among (tile_meets_screen size r n met) in
    let shape = open_shape top near size clips tris left ∙ ap (λ (b : Bool). cond b (Pieces (object_pieces top near size clips tris) (hull_of (near_boxes near size clips tris))) AlwaysOutside) on in
    let hull = hull_of (near_boxes near size clips tris) in
    let area : area_of size (mesh_shape top near size clips tris) ≡ cut_of hull (screen_of size) = ap (area_of size) shape in
    holds n lt (ap (λ a. meets a (tile_rect_of size n)) area ∙ tile_meets_cut size r hull n (hull_holds (near_boxes near size clips tris) r among) met))

-- a sample of the pieces is one that a piece touches
has_from : (size : Dimensions) (ps : List Piece) (t : Piece) (px py : ℕ) (hull : Rect) → Contains ps t → TouchesPixel size t px py → has_sample (Pieces ps hull) px py ≡ true
has_from size ps t px py hull m (x, y, touch) = one_holds (λ u. touches u (middle px py)) ps t m touch

-- where a sample shows, the pieces aren't hidden
shown : (size : Dimensions) (f : Sub → State) (ps : List Piece) (hull : Rect) → SomeShows f (TouchedBy size ps) → is_hidden size f (Pieces ps hull) ≡ false
shown size f ps hull (t, px, py, (m, touch), shows) = false_from_ne_true (is_hidden size f (Pieces ps hull)) (λ h.
    let at = hidden_each size f (Pieces ps hull) h px py touch.0 touch.1 (has_from size ps t px py hull m touch) in
    let here = each_holds (λ u. not (touches u (middle px py)) || hides (f (sub_of_pixel px py)) (sample_of_pixel px py) (high_of u (sub_of_pixel px py))) ps t at m in
    both_ways (hides_piece f t px py) shows (implied (touches t (middle px py)) (hides_piece f t px py) here touch.2))

-- where each that is touched hides, they are hidden if one is touched
all_hide : (size : Dimensions) (f : Sub → State) (ps : List Piece) (hull : Rect) (b : Bool) → Asked f (TouchedBy size ps) false b → is_hidden size f (Pieces ps hull) ≡ b
all_hide size f ps hull b asked = equal (is_hidden size f (Pieces ps hull)) b (λ h. to h) (λ e. from e)
  where
    touched_one : (px py : ℕ) → px < size.width → py < size.height → has_sample (Pieces ps hull) px py ≡ true → (t : Piece) × TouchedBy size ps t px py
    touched_one px py x y has = let (t, m, touch) = one_that_holds (λ u. touches u (middle px py)) ps has in (t, (m, (x, y, touch)))

    to : is_hidden size f (Pieces ps hull) ≡ true → b ≡ true
    to h = by b refl
      where
        by : (c : Bool) → b ≡ c → c ≡ true
        by true e = refl
        by false e =
            let (px, py, x, y, has) = hidden_some size f (Pieces ps hull) h in
            let (t, on) = touched_one px py x y has in
            absurd ((asked.none e).1 t px py on)

    each : (px py : ℕ) → px < size.width → py < size.height → has_sample (Pieces ps hull) px py ≡ true → is_hidden_at f (Pieces ps hull) px py ≡ true
    each px py x y has = each_from (λ u. not (touches u (middle px py)) || hides (f (sub_of_pixel px py)) (sample_of_pixel px py) (high_of u (sub_of_pixel px py))) ps
        (λ t m. implies (touches t (middle px py)) (hides_piece f t px py) (λ touch. asked.hidden t px py (m, (x, y, touch))))

    from : b ≡ true → is_hidden size f (Pieces ps hull) ≡ true
    from e = elim (asked.some e) [
      | inl before ↦ absurd cc
      | inr found ↦ let (t, px, py, on) = found in let touch = on.1 in
          hidden_if size f (Pieces ps hull) px py touch.0 touch.1 (has_from size ps t px py hull on.0 touch) each
    ]

-- the verdict after all triangles
pub found_verdict : (f : Sub → State) (top near : ℕ) (size : Dimensions) (clips : List ClipVertex) (tris : List Tri) (now : Progress) → IsOpen near clips tris
    → HasAsked f size (object_pieces top near size clips tris) (near_boxes near size clips tris) at_first now
    → verdict_of size f (mesh_shape top near size clips tris) ≡ cond now.met (cond now.touched Occluded Visible) Outside
found_verdict f top near size clips tris now left h =
    ap (verdict_of size f) (open_shape top near size clips tris left) ∙ by (is_one_on_screen size (near_boxes near size clips tris)) now.met h.met
  where
    by : (b m : Bool) → m ≡ b → verdict_of size f (cond b (Pieces (object_pieces top near size clips tris) (hull_of (near_boxes near size clips tris))) AlwaysOutside) ≡ cond m (cond now.touched Occluded Visible) Outside
    by true m e = ap (λ (c : Bool). cond c Occluded Visible) (all_hide size f (object_pieces top near size clips tris) (hull_of (near_boxes near size clips tris)) now.touched h.touched) ∙ rw e refl
    by false m e = rw e refl

-- the verdict where a sample shows
pub shown_verdict : (f : Sub → State) (grade : Grade) (near : ℕ) (size : Dimensions) (clips : List ClipVertex) (tris : List Tri) → IsSize size.width size.height → 1 ≤ near → near ≤ 1024 → IsOpen near clips tris
    → SomeShows f (TouchedBy size (object_pieces (top_of grade) near size clips tris)) → verdict_of size f (mesh_shape (top_of grade) near size clips tris) ≡ Visible
shown_verdict f grade near size clips tris valid hn le left shows =
    let (t, px, py, (m, touch), s) = shows in
    let (tri, n, among) = from_joined (object_pieces_at (top_of grade) near size clips) tris t m in
    let piece = held_by_member IsPiece _ t (pieces_are (clip_at clips tri 0) (clip_at clips tri 1) (clip_at clips tri 2) grade near size Both Object valid hn le) among in
    let box = piece_in_near_box (clip_at clips tri 0) (clip_at clips tri 1) (clip_at clips tri 2) (top_of grade) near size Both Object t among in
    let on = one_holds (λ a. meets a (screen_of size)) (near_boxes near size clips tris) box.rect (box_among near size clips tris tri box.rect n box.is) (touched_meets size t box.rect px py piece box.within touch) in
    let hull = hull_of (near_boxes near size clips tris) in
    let shape = open_shape (top_of grade) near size clips tris left ∙ ap (λ (b : Bool). cond b (Pieces (object_pieces (top_of grade) near size clips tris) hull) AlwaysOutside) on in
    ap (verdict_of size f) shape ∙ ap (λ (b : Bool). cond b Occluded Visible) (shown size f (object_pieces (top_of grade) near size clips tris) hull shows)

-- the area where the vertices leave it open
pub open_area : (top near : ℕ) (size : Dimensions) (clips : List ClipVertex) (tris : List Tri) (b : Bool) → IsOpen near clips tris → is_one_on_screen size (near_boxes near size clips tris) ≡ b
    → area_of size (mesh_shape top near size clips tris) ≡ cond b (cut_of (hull_of (near_boxes near size clips tris)) (screen_of size)) no_pixels
open_area top near size clips tris b left e = ap (area_of size) (open_shape top near size clips tris left) ∙ by b e
  where
    by : (b : Bool) → is_one_on_screen size (near_boxes near size clips tris) ≡ b
        → area_of size (cond (is_one_on_screen size (near_boxes near size clips tris)) (Pieces (object_pieces top near size clips tris) (hull_of (near_boxes near size clips tris))) AlwaysOutside)
        ≡ cond b (cut_of (hull_of (near_boxes near size clips tris)) (screen_of size)) no_pixels
    by true e = rw e refl
    by false e = rw e refl

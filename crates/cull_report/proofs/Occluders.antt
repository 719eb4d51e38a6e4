-- An occluded object has a piece strictly nearer at each of its samples.
use Rattle.std.proofs.Common.{◌≡◌, ℕ, ℤ, pos, zero, suc, ◌<◌, ◌≤ℤ◌, ◌<ℤ◌, ◌&&◌, true, arith, refl, sym, ◌∙◌, List, [], ◌∷◌, map, length, take, drop, int_lt, int_le, Some, nat_lt, subst}
use Rattle.std.specs.Prelude.{slice_get}
use Rattle.std.proofs.lemmas.Bool.{and_parts}
use Rattle.std.proofs.lemmas.Bool.Decides.{nat_tests}
use Rattle.std.proofs.lemmas.Int.{ints}
use Rattle.cull_base.specs.declared.rect.Rect.{Rect}
use Rattle.cull_base.specs.declared.place.Sub.{Sub}
use Rattle.cull_base.specs.declared.scene_types.Object.{Object}
use Rattle.cull_base.specs.declared.scene_types.Object.TheVariants.{Area, Block, Mesh}
use Rattle.cull_base.specs.declared.scene_types.Verdict.{Verdict}
use Rattle.cull_base.specs.declared.scene_types.Verdict.TheVariants.{Occluded}
use Rattle.cull_base.specs.Grade.{top_of}
use Rattle.cull_base.specs.Screen.{Dimensions, screen_of, tile_rect_of}
use Rattle.cull_base.specs.Rectangle.{HasPixel}
use Rattle.cull_base.specs.Piece.{Piece, middle, touches}
use Rattle.cull_base.specs.State.{State}
use Rattle.cull_base.specs.Fold.{after, IsSound}
use Rattle.cull_base.specs.Tiles.{ArePieces}
use Rattle.cull_base.specs.Nearer.{HasNearerPiece}
use Rattle.cull_base.specs.Pixels.{sub_of_pixel, tile_of_pixel}
use Rattle.cull_base.specs.Shape.{Shape, AlwaysOutside, AlwaysVisible, Flat, HasPieces, Pieces, has_sample, near_at, area_of, verdict_of}
use Rattle.cull_base.proofs.Pixels.{tile_of_pixel-is}
use Rattle.cull_base.proofs.Rectangles.{meets_pixel, cut_pixels}
use Rattle.masked_update.proofs.Drawing.{after_is_sound}
use Rattle.masked_update.specs.TileOf.{TileOf}
use Rattle.masked_update.specs.Views.{state_in}
use Rattle.scene_reader.specs.Layout.{Parts, IsScene}
use Rattle.rect_query.specs.Boxes.{box_answer}
use Rattle.rect_query.proofs.Shapes.{answer_has_pieces, rectangle_has_pieces}
use Rattle.mesh_query.proofs.Members.{one_that_holds}
use Rattle.mesh_query.proofs.Boxes.{on_screen, touched_pixel}
use Rattle.mesh_query.proofs.Occluders.{mesh_has_pieces, sound_hides}
use Rattle.cull_report.specs.Scene.{frame_pieces, frame_verdicts, frame_clips, size_of, object_shape, object_area, object_verdict, verdict_in}
use Rattle.cull_report.specs.Hiding.{HidesObject, HidesTruly}
use Rattle.cull_report.proofs.TileStates.{state_after}

pub below : (m n : ℕ) → nat_lt m n ≡ true → m < n
below m n e = grind (arith, nat_tests)

-- the object at a place, and the verdict there
verdict_there : (f : Object → Verdict) (os : List Object) (o : ℕ) (x : Object) (v : Verdict) → slice_get os o ≡ Some x → slice_get (map f os) o ≡ Some v → f x ≡ v
verdict_there f [] o x v e g = absurd cc
verdict_there f (y ∷ ys) zero x v e g = let is : y ≡ x = cc in rw (← is) (cc)
verdict_there f (y ∷ ys) (suc o) x v e g = verdict_there f ys o x v e g

-- and so has one where the subtile has the state after the list
pub shape_hides : (size : Dimensions) (f : Sub → State) (pieces : List Piece) (shape : Shape) (px py : ℕ) → HasPieces shape → ArePieces pieces → f (sub_of_pixel px py) ≡ after (sub_of_pixel px py) pieces
    → verdict_of size f shape ≡ Occluded → px < size.width → py < size.height → has_sample shape px py ≡ true → HasNearerPiece pieces (middle px py) (near_at shape px py)
shape_hides size f pieces shape px py good all is occluded x y has =
    let u = sub_of_pixel px py in
    sound_hides size f pieces shape px py good all (subst (IsSound u pieces) (sym is) (after_is_sound u pieces all)) occluded x y has

pub object_has_pieces : (s : Parts) (frame : ℕ) (x : Object) → IsScene s → HasPieces (object_shape s frame x)
unfolding object_shape
object_has_pieces s frame (Area r w) scene = rectangle_has_pieces (top_of s.grade) s.near (size_of s) r w
object_has_pieces s frame (Block low high) scene = answer_has_pieces (size_of s) (box_answer (top_of s.grade) s.near (size_of s) _)
object_has_pieces s frame (Mesh first count) scene = mesh_has_pieces s.grade s.near (size_of s) (frame_clips s frame) (take count (drop first s.object_tris)) scene.size scene.near_some scene.near_within

pub hides_truly : (s : Parts) → IsScene s → ((frame : ℕ) → frame < length s.cameras → ArePieces (frame_pieces s frame)) → HidesTruly s
unfolding frame_verdicts
hides_truly s scene all = record {
  at_each_sample = λ frame o x px py lt at is has.
      let sampled = and_parts (nat_lt px s.width && nat_lt py s.height) (has_sample (object_shape s frame x) px py) has in
      let on = and_parts (nat_lt px s.width) (nat_lt py s.height) sampled.0 in
      let pieces = frame_pieces s frame in
      let occluded = verdict_there (object_verdict s frame (λ u. after u pieces)) s.objects o x Occluded at is in
      shape_hides (size_of s) (λ u. after u pieces) pieces (object_shape s frame x) px py (object_has_pieces s frame x scene) (all frame lt) refl occluded (below px s.width on.0) (below py s.height on.1) sampled.1;
}

-- each sample of a shape in the screen is one of its area
pub sample_in_area : (size : Dimensions) (shape : Shape) (px py : ℕ) → HasPieces shape → px < size.width → py < size.height → has_sample shape px py ≡ true → HasPixel (area_of size shape) (pos px) (pos py)
sample_in_area size AlwaysOutside px py good x y has = absurd cc
sample_in_area size AlwaysVisible px py good x y has = absurd cc
sample_in_area size (Flat r q) px py good x y has = (cut_pixels r (screen_of size) (pos px) (pos py)).1 (held r px py has, on_screen size px py x y)
  where
    axis : (a0 a1 : ℤ) (p : ℕ) → (int_le a0 (pos p) && int_lt (pos p) a1) ≡ true → (a0 ≤ℤ pos p) × (pos p <ℤ a1)
    axis a0 a1 p t = (grind (arith, ints), grind (arith, ints))

    held : (r : Rect) (px py : ℕ) → ((int_le r.x0 (pos px) && int_lt (pos px) r.x1) && (int_le r.y0 (pos py) && int_lt (pos py) r.y1)) ≡ true → HasPixel r (pos px) (pos py)
    held r px py t =
        let both = and_parts (int_le r.x0 (pos px) && int_lt (pos px) r.x1) (int_le r.y0 (pos py) && int_lt (pos py) r.y1) t in
        let h = axis r.x0 r.x1 px both.0 in let v = axis r.y0 r.y1 py both.1 in (h.0, h.1, v.0, v.1)
sample_in_area size (Pieces ts hull) px py good x y has =
    let (t, m, touch) = one_that_holds (λ u. touches u (middle px py)) ts has in
    let (piece, within) = good t m in
    (cut_pixels hull (screen_of size) (pos px) (pos py)).1 (touched_pixel t hull px py piece within touch, on_screen size px py x y)

-- the same where each tile of the area has the states after a list of its own
pub hides_object : (s : Parts) (frame : ℕ) (tile_of : ℕ → TileOf) (x : Object) (verdict : Verdict) → IsScene s → verdict ≡ verdict_in s frame tile_of x → HidesObject s frame tile_of x verdict
hides_object s frame tile_of x verdict scene is lists taken occluded px py has =
    let size = size_of s in let shape = object_shape s frame x in
    let sampled = and_parts (nat_lt px s.width && nat_lt py s.height) (has_sample shape px py) has in
    let on = and_parts (nat_lt px s.width) (nat_lt py s.height) sampled.0 in
    let across = below px s.width on.0 in let down = below py s.height on.1 in
    let good = object_has_pieces s frame x scene in
    let tile = tile_of_pixel-is size px py across down in
    let n = tile_of_pixel size px py in
    let pixel = sample_in_area size shape px py good across down sampled.1 in
    let met = (meets_pixel (object_area s frame x) (tile_rect_of size n)).1 (pos px, pos py, pixel, tile.pixel) in
    let took = taken n tile.within met in
    shape_hides size (state_in size tile_of) (lists n) shape px py good took.0 (state_after size tile_of (lists n) px py across down took.1) (sym is ∙ occluded) across down sampled.1

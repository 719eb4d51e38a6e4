-- Objects that are settled over tiles after fronts of their lists are occluded in the whole frame.
use Rattle.std.proofs.Common.{◌≡◌, ℕ, pos, ◌<◌, Bool, true, false, cond, take, arith, ap, refl, sym, ◌∙◌, List}
use Rattle.cull_base.specs.declared.clip.ClipVertex.{ClipVertex}
use Rattle.cull_base.specs.declared.place.Sub.{Sub}
use Rattle.cull_base.specs.declared.rect.Rect.{Rect}
use Rattle.cull_base.specs.declared.scene_types.Object.{Object}
use Rattle.cull_base.specs.declared.scene_types.Tri.{Tri}
use Rattle.cull_base.specs.declared.scene_types.Verdict.TheVariants.{Visible, Occluded}
use Rattle.cull_base.specs.Fold.{after}
use Rattle.cull_base.specs.Guard.{is_past_guard}
use Rattle.cull_base.specs.NearPlane.{is_behind}
use Rattle.cull_base.specs.Pixels.{sub_of_pixel, sample_of_pixel, tile_of_pixel, has_pixel}
use Rattle.cull_base.specs.Rectangle.{meets}
use Rattle.cull_base.specs.Screen.{Dimensions, IsSize, screen_of, tile_rect_of}
use Rattle.cull_base.specs.Shape.{Shape, AlwaysOutside, AlwaysVisible, Flat, Pieces, flat_shape, area_of, verdict_of}
use Rattle.cull_base.specs.State.{State}
use Rattle.cull_base.specs.Tiles.{PieceList, ArePieces, tile_list}
use Rattle.cull_base.proofs.HiddenObjects.{below_reference, hidden_if}
use Rattle.cull_base.proofs.Pixels.{tile_of_pixel-is}
use Rattle.cull_base.proofs.Rectangles.{meets_pixel}
use Rattle.masked_update.specs.TileOf.{TileOf}
use Rattle.masked_update.specs.Views.{state_in}
use Rattle.mesh_query.specs.Meshes.{at_each_vertex, at_some_vertex, is_one_on_screen, near_boxes, object_pieces, hull_of, mesh_shape}
use Rattle.rect_query.specs.Settled.{is_settled}
use Rattle.rect_query.proofs.Bare.{settled_each, settled_some, unmet_unsettled}
use Rattle.rect_query.proofs.References.{after_layered, whole_rises}
use Rattle.scene_reader.specs.Layout.{Parts, IsScene}
use Rattle.cull_report.specs.Scene.{frame_list, object_shape}
use Rattle.cull_report.specs.Settled.{ArePrefixed, SettlesObject, is_settled_shape, settled_in}
use Rattle.cull_report.proofs.Occluders.{sample_in_area}
use Rattle.cull_report.proofs.TileStates.{own_list_at, state_after}

-- a rectangle with one nearness is settled as its shape is
pub flat_settled : (size : Dimensions) (f : Sub → State) (r : Rect) (q : ℕ) → is_settled size f r q ≡ is_settled_shape size f (flat_shape size r q)
flat_settled size f r q = by (meets r (screen_of size)) refl
  where
    by : (m : Bool) → meets r (screen_of size) ≡ m → is_settled size f r q ≡ is_settled_shape size f (cond m (Flat r q) AlwaysOutside)
    by true e = refl
    by false e = sym (unmet_unsettled size f r q e)

-- no mesh is
pub mesh_unsettled : (top near : ℕ) (size : Dimensions) (f : Sub → State) (clips : List ClipVertex) (tris : List Tri) → false ≡ is_settled_shape size f (mesh_shape top near size clips tris)
unfolding mesh_shape
mesh_unsettled top near size f clips tris = by (at_each_vertex clips (is_behind near) tris) (at_some_vertex clips (λ v. is_past_guard v near) tris) (is_one_on_screen size (near_boxes near size clips tris))
  where
    by : (a b c : Bool)
        → false ≡ is_settled_shape size f (cond a AlwaysOutside (cond b AlwaysVisible (cond c (Pieces (object_pieces top near size clips tris) (hull_of (near_boxes near size clips tris))) AlwaysOutside)))
    by true b c = refl
    by false true c = refl
    by false false true = refl
    by false false false = refl

-- a reference that is nearer after a front of a tile's list is nearer after the whole list
nearer_later : (list : PieceList) (tile_of : ℕ → TileOf) (count : ℕ → ℕ) (r : Rect) (q px py : ℕ) → IsSize list.size.width list.size.height → ArePieces list.members
    → ArePrefixed tile_of list (area_of list.size (Flat r q)) count → px < list.size.width → py < list.size.height → has_pixel r px py ≡ true
    → q < (state_in list.size tile_of (sub_of_pixel px py)).reference → q < (after (sub_of_pixel px py) list.members).reference
nearer_later list tile_of count r q px py sized all prefix x y has lt =
    let size = list.size in let u = sub_of_pixel px py in let t = tile_of_pixel size px py in
    let tile = tile_of_pixel-is size px py x y in
    let pixel = sample_in_area size (Flat r q) px py tt x y has in
    let met = (meets_pixel (area_of size (Flat r q)) (tile_rect_of size t)).1 (pos px, pos py, pixel, tile.pixel) in
    let front = take (count t) (tile_list t list) in
    let now = ap (λ (s : State). s.reference) (state_after size tile_of front px py x y (prefix t tile.within met)) in
    let later = whole_rises u (tile_list t list) (count t) in
    let own = ap (λ (s : State). s.reference) (own_list_at list px py sized all x y) in
    omega (arith, lt, now, later, own)

shape_settles : (list : PieceList) (tile_of : ℕ → TileOf) (count : ℕ → ℕ) (shape : Shape) → IsSize list.size.width list.size.height → ArePieces list.members
    → ArePrefixed tile_of list (area_of list.size shape) count → is_settled_shape list.size (state_in list.size tile_of) shape ≡ true
    → verdict_of list.size (λ u. after u list.members) shape ≡ Occluded
shape_settles list tile_of count AlwaysOutside sized all prefix e = absurd cc
shape_settles list tile_of count AlwaysVisible sized all prefix e = absurd cc
shape_settles list tile_of count (Pieces ts hull) sized all prefix e = absurd cc
shape_settles list tile_of count (Flat r q) sized all prefix e =
    let size = list.size in
    let (px, py, x, y, has) = settled_some size (state_in size tile_of) r q e in
    ap (λ (b : Bool). cond b Occluded Visible)
    (hidden_if size (λ u. after u list.members) (Flat r q) px py x y has (λ i j across down inside.
    below_reference (after (sub_of_pixel i j) list.members) (sample_of_pixel i j) q (after_layered (sub_of_pixel i j) list.members)
    (nearer_later list tile_of count r q i j sized all prefix across down inside (settled_each size (state_in size tile_of) r q e i j across down inside))))

pub settles_object : (s : Parts) (frame : ℕ) (tile_of : ℕ → TileOf) (x : Object) (settled : Bool) → IsScene s → settled ≡ settled_in s frame tile_of x → SettlesObject s frame tile_of x settled
unfolding frame_list
settles_object s frame tile_of x settled scene is count all prefix told =
    shape_settles (frame_list s frame) tile_of count (object_shape s frame x) scene.size all prefix (sym is ∙ told)

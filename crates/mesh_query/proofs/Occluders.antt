-- An occluded mesh has a piece strictly nearer at each of its samples.
use Rattle.std.proofs.Common.{◌≡◌, ℕ, ℤ, pos, negsuc, ◌*◌, ◌<◌, ◌≤◌, ◌+◌, ◌⊎◌, ◌*ℤ◌, ◌≤ℤ◌, ◌<ℤ◌, List, [], ◌∷◌, map, filter, Bool, true, false, ◌||◌, not, cond, arith, refl, ap, ◌∙◌, subst, inl, inr, int_lt}
use Rattle.std.specs.List.{fold, Contains}
use Rattle.std.proofs.lemmas.Int.{ints}
use Rattle.std.proofs.lemmas.Bool.{both_ways}
use Rattle.cull_base.specs.declared.clip.ClipVertex.{ClipVertex}
use Rattle.cull_base.specs.declared.nearness.Grade.{Grade}
use Rattle.cull_base.specs.declared.place.Sub.{Sub}
use Rattle.cull_base.specs.declared.rect.Rect.{Rect}
use Rattle.cull_base.specs.declared.scene_types.Tri.{Tri}
use Rattle.cull_base.specs.declared.triangle.Side.TheVariants.{Object}
use Rattle.cull_base.specs.declared.triangle.Winding.TheVariants.{Both}
use Rattle.cull_base.specs.declared.scene_types.Verdict.TheVariants.{Occluded}
use Rattle.cull_base.specs.Grade.{top_of}
use Rattle.cull_base.specs.Guard.{is_past_guard}
use Rattle.cull_base.specs.NearPlane.{is_behind}
use Rattle.cull_base.specs.Screen.{Dimensions, IsSize}
use Rattle.cull_base.specs.Piece.{Piece, Point, IsPiece, middle, touches, box_of}
use Rattle.cull_base.specs.Depth.{numerator, denominator, high_of}
use Rattle.cull_base.specs.Fraction.{Fraction, whole_number, depth_at, greater, greatest_fraction}
use Rattle.cull_base.specs.State.{State, hides}
use Rattle.cull_base.specs.Fold.{IsSound}
use Rattle.cull_base.specs.Tiles.{ArePieces}
use Rattle.cull_base.specs.Nearer.{HasNearerPiece}
use Rattle.cull_base.specs.Pixels.{sub_of_pixel, sample_of_pixel}
use Rattle.cull_base.specs.Shape.{Shape, AlwaysOutside, AlwaysVisible, Flat, HasPieces, Pieces, has_sample, near_at, is_hidden, verdict_of}
use Rattle.cull_base.proofs.HiddenObjects.{implied, hidden_each, occluded_is_hidden}
use Rattle.cull_base.proofs.Nearer.{nearer_piece}
use Rattle.cull_base.proofs.Pixels.{sample_below, sample_is_middle}
use Rattle.depth_plane.proofs.Depths.{high_of-above}
use Rattle.depth_plane.proofs.Products.{le_times}
use Rattle.snap_setup.proofs.PieceBoxes.{piece_in_near_box}
use Rattle.snap_setup.proofs.ValidPieces.{pieces_are, held_by_member}
use Rattle.snap_setup.specs.Pieces.{clip_at}
use Rattle.mesh_query.specs.Meshes.{at_each_vertex, at_some_vertex, near_boxes, object_pieces, object_pieces_at, is_one_on_screen, hull_of, mesh_shape}
use Rattle.mesh_query.proofs.Boxes.{hull_holds, within_all}
use Rattle.mesh_query.proofs.Members.{first_of_list, later_of_list, cases_of_list, one_that_holds, each_holds, from_joined}
use Rattle.mesh_query.proofs.Verdicts.{box_among}

-- what holds of each of some fractions holds of the greatest, if there is one
fold_has : (P : Fraction → Type 0) (x : Fraction) (xs : List Fraction) → P x → ((y : Fraction) → Contains xs y → P y) → P (fold greater x xs)
fold_has P x [] p h = p
fold_has P x (y ∷ ys) p h = fold_has P (greater x y) ys (either x y p (h y (first_of_list y ys))) (λ z m. h z (later_of_list y z ys m))
  where
    either : (a b : Fraction) → P a → P b → P (greater a b)
    either a b pa pb = by (int_lt (a.numerator *ℤ b.denominator) (b.numerator *ℤ a.denominator))
      where
        by : (c : Bool) → P (cond c b a)
        by true = pb
        by false = pa

greatest_has : (P : Fraction → Type 0) (x : Fraction) (xs : List Fraction) → Contains xs x → ((y : Fraction) → Contains xs y → P y) → P (greatest_fraction xs)
greatest_has P x [] (k, lt, is) h = absurd (omega (arith, lt))
greatest_has P x (y ∷ ys) m h = fold_has P y ys (h y (first_of_list y ys)) (λ z n. h z (later_of_list y z ys n))

-- each fraction of those that a test keeps
from_kept : (f : Piece → Fraction) (p : Piece → Bool) (ps : List Piece) (y : Fraction) → Contains (map f (filter p ps)) y → (t : Piece) × Contains ps t × (p t ≡ true) × (f t ≡ y)
from_kept f p [] y (k, lt, is) = absurd (omega (arith, lt))
from_kept f p (t ∷ ts) y m = by (p t) refl m (λ n. from_kept f p ts y n)
  where
    by : (b : Bool) → p t ≡ b → Contains (map f (cond b (t ∷ filter p ts) (filter p ts))) y → (Contains (map f (filter p ts)) y → (u : Piece) × Contains ts u × (p u ≡ true) × (f u ≡ y)) → (u : Piece) × Contains (t ∷ ts) u × (p u ≡ true) × (f u ≡ y)
    by true e m rest = elim (cases_of_list (f t) y (map f (filter p ts)) m) [
      | inl is ↦ (t, first_of_list t ts, e, is)
      | inr later ↦ let (u, n, q, is) = rest later in (u, later_of_list t u ts n, q, is)
    ]
    by false e m rest = let (u, n, q, is) = rest m in (u, later_of_list t u ts n, q, is)

kept_there : (f : Piece → Fraction) (p : Piece → Bool) (ps : List Piece) (t : Piece) → Contains ps t → p t ≡ true → Contains (map f (filter p ps)) (f t)
kept_there f p [] t (k, lt, is) e = absurd (omega (arith, lt))
kept_there f p (u ∷ us) t m e = by (p u) refl (cases_of_list u t us m) (λ n. kept_there f p us t n e)
  where
    by : (b : Bool) → p u ≡ b → (u ≡ t) ⊎ Contains us t → (Contains us t → Contains (map f (filter p us)) (f t)) → Contains (map f (cond b (u ∷ filter p us) (filter p us))) (f t)
    by true h (inl is) rest = subst (λ (v : Piece). Contains (f u ∷ map f (filter p us)) (f v)) is (first_of_list (f u) (map f (filter p us)))
    by true h (inr later) rest = later_of_list (f u) (f t) (map f (filter p us)) (rest later)
    by false h (inl is) rest = absurd (both_ways (p t) (rw (← is) h) e)
    by false h (inr later) rest = rest later

-- a depth that is no greater than a bound is strictly below what is above the bound
below : (h b d : ℕ) (a n : ℤ) → 0 < b → 0 < d → a ≤ℤ pos (h * b) → pos (h * d) <ℤ n → (a *ℤ pos d) <ℤ (n *ℤ pos b)
below h b d a n hb hd le lt =
    let p = le_times a (pos (h * b)) (pos d) (omega (arith, ints)) le in
    let q = le_times (pos (h * d + 1)) n (pos b) (omega (arith, ints)) (omega (arith, ints, lt)) in
    omega (arith, ints, p, q)

nearer : (h : ℕ) (a b n d : ℤ) → pos 0 <ℤ b → pos 0 <ℤ d → a ≤ℤ (pos h *ℤ b) → (pos h *ℤ d) <ℤ (n *ℤ pos 1) → (a *ℤ d) <ℤ (n *ℤ b)
nearer h a (pos b) n (pos d) hb hd le lt = below h b d a n (omega (arith, ints, hb)) (omega (arith, ints, hd)) (omega (arith, ints, le)) (omega (arith, ints, lt))
nearer h a (negsuc b) n d hb hd le lt = absurd (omega (arith, ints, hb))
nearer h a (pos b) n (negsuc d) hb hd le lt = absurd (omega (arith, ints, hd))

-- what is nearer than a bound is nearer than a depth that is no greater
nearer_than_depth : (pieces : List Piece) (p : Point) (t : Piece) (h : ℕ) → ArePieces pieces → IsPiece t → numerator t p ≤ℤ (pos h *ℤ denominator t) → HasNearerPiece pieces p (whole_number (pos h)) → HasNearerPiece pieces p (depth_at t p)
nearer_than_depth pieces p t h all piece le (s, member, covering, lt) =
    (s, member, covering, nearer h (numerator t p) (denominator t) (numerator s p) (denominator s) piece.positive_area (all s member).positive_area le lt)

-- pieces that are hidden have at each sample that one touches a piece nearer than the greatest of their depths there
pub pieces_nearer : (size : Dimensions) (f : Sub → State) (list ps : List Piece) (hull : Rect) (px py : ℕ) → ((t : Piece) → Contains ps t → IsPiece t) → ArePieces list → IsSound (sub_of_pixel px py) list (f (sub_of_pixel px py))
    → is_hidden size f (Pieces ps hull) ≡ true → px < size.width → py < size.height → has_sample (Pieces ps hull) px py ≡ true → HasNearerPiece list (middle px py) (near_at (Pieces ps hull) px py)
pieces_nearer size f list ps hull px py pieces all sound hidden x y has =
    let u = sub_of_pixel px py in let k = sample_of_pixel px py in let p = middle px py in
    let (t, m, touch) = one_that_holds (λ v. touches v p) ps has in
    let here = hidden_each size f (Pieces ps hull) hidden px py x y has in
    greatest_has (HasNearerPiece list p) (depth_at t p) (map (λ v. depth_at v p) (filter (λ v. touches v p) ps)) (kept_there (λ v. depth_at v p) (λ v. touches v p) ps t m touch)
    (λ z n. let (v, among, touching, is) = from_kept (λ w. depth_at w p) (λ w. touches w p) ps z n in
    let hides_it = implied (touches v p) (hides (f u) k (high_of v u)) (each_holds (λ w. not (touches w p) || hides (f u) k (high_of w u)) ps v here among) touching in
    let at = sample_is_middle px py in
    let bound = high_of-above v u k (pieces v among) (sample_below px py) (ap (touches v) at ∙ touching) in
    let le : numerator v p ≤ℤ (pos (high_of v u) *ℤ denominator v) = subst (λ (q : Point). numerator v q ≤ℤ (pos (high_of v u) *ℤ denominator v)) at bound in
    subst (HasNearerPiece list p) is (nearer_than_depth list p v (high_of v u) all (pieces v among) le (nearer_piece list u (f u) k (high_of v u) p all sound (sample_below px py) at hides_it)))

-- a shape that is occluded where a subtile is sound for a list has a piece of it strictly nearer at each sample there
pub sound_hides : (size : Dimensions) (f : Sub → State) (pieces : List Piece) (shape : Shape) (px py : ℕ) → HasPieces shape → ArePieces pieces → IsSound (sub_of_pixel px py) pieces (f (sub_of_pixel px py))
    → verdict_of size f shape ≡ Occluded → px < size.width → py < size.height → has_sample shape px py ≡ true → HasNearerPiece pieces (middle px py) (near_at shape px py)
sound_hides size f pieces AlwaysOutside px py good all sound occluded x y has = absurd cc
sound_hides size f pieces AlwaysVisible px py good all sound occluded x y has = absurd cc
sound_hides size f pieces (Flat r q) px py good all sound occluded x y has =
    let u = sub_of_pixel px py in
    let h = hidden_each size f (Flat r q) (occluded_is_hidden size f (Flat r q) occluded) px py x y has in
    nearer_piece pieces u (f u) (sample_of_pixel px py) q (middle px py) all sound (sample_below px py) (sample_is_middle px py) h
sound_hides size f pieces (Pieces ts hull) px py good all sound occluded x y has =
    pieces_nearer size f pieces ts hull px py (λ t m. (good t m).0) all sound (occluded_is_hidden size f (Pieces ts hull) occluded) x y has

pub mesh_has_pieces : (grade : Grade) (near : ℕ) (size : Dimensions) (clips : List ClipVertex) (tris : List Tri) → IsSize size.width size.height → 1 ≤ near → near ≤ 1024 → HasPieces (mesh_shape (top_of grade) near size clips tris)
unfolding mesh_shape
mesh_has_pieces grade near size clips tris valid hn le = by (at_each_vertex clips (is_behind near) tris) (at_some_vertex clips (λ v. is_past_guard v near) tris) (is_one_on_screen size (near_boxes near size clips tris))
  where
    by : (a b c : Bool) → HasPieces (cond a AlwaysOutside (cond b AlwaysVisible (cond c (Pieces (object_pieces (top_of grade) near size clips tris) (hull_of (near_boxes near size clips tris))) AlwaysOutside)))
    by true b c = tt
    by false true c = tt
    by false false false = tt
    by false false true = λ t m.
        let (tri, n, among) = from_joined (object_pieces_at (top_of grade) near size clips) tris t m in
        let box = piece_in_near_box (clip_at clips tri 0) (clip_at clips tri 1) (clip_at clips tri 2) (top_of grade) near size Both Object t among in (
          held_by_member IsPiece _ t (pieces_are (clip_at clips tri 0) (clip_at clips tri 1) (clip_at clips tri 2) grade near size Both Object valid hn le) among,
          within_all (box_of t) box.rect (hull_of (near_boxes near size clips tris)) box.within (hull_holds (near_boxes near size clips tris) box.rect (box_among near size clips tris tri box.rect n box.is)),
        )

-- What the pieces of a triangle have in common: each is a piece, and its box lies in the triangle's near box.
use Rattle.std.proofs.Common.{◌≡◌, ℕ, ℤ, pos, suc, ◌≤◌, ◌<ℤ◌, ◌+ℤ◌, ◌-ℤ◌, List, [], ◌∷◌, ◌++◌, map, Bool, true, false, cond, Some, None, option_to_list, arith, refl, sym, subst, int_lt}
use Rattle.std.specs.List.{All, Contains}
use Rattle.std.specs.Ordering.{int_eq}
use Rattle.std.proofs.lemmas.Bool.{or_parts}
use Rattle.std.proofs.lemmas.Int.{ints}
use Rattle.std.proofs.lemmas.List.Elements.{All-nil, All-cons}
use Rattle.cull_base.specs.declared.clip.ClipVertex.{ClipVertex}
use Rattle.cull_base.specs.declared.nearness.Grade.{Grade}
use Rattle.cull_base.specs.declared.nearness.TheConstants.{HELD_TOP}
use Rattle.cull_base.specs.declared.triangle.Side.{Side}
use Rattle.cull_base.specs.declared.triangle.Side.TheVariants.{Occluder, Object}
use Rattle.cull_base.specs.declared.triangle.Winding.{Winding}
use Rattle.cull_base.specs.Grade.{top_of}
use Rattle.cull_base.specs.Piece.{Piece, IsPiece, IsCoordinate, doubled_area}
use Rattle.cull_base.specs.Screen.{Dimensions, IsSize}
use Rattle.near_clip.specs.declared.hom_point.HomPoint.{HomPoint}
use Rattle.near_clip.specs.NearPart.{near_part, corner}
use Rattle.near_clip.specs.Reach.{IsInReach}
use Rattle.near_clip.proofs.Guarded.{guarded}
use Rattle.near_clip.proofs.Reaches.{near_part_reaches}
use Rattle.snap_setup.specs.declared.snapping.Snapped.{Snapped}
use Rattle.snap_setup.specs.Snapping.{snapped, nearness_of, IsSnapped}
use Rattle.snap_setup.specs.Pieces.{triangle, triangles_of, is_left_out, is_dropped, exchanged, turned, kept_of, snapped_part, is_any_past_guard, pieces_of}
use Rattle.snap_setup.specs.Triangles.{pieces_of_triangle}
use Rattle.snap_setup.proofs.Areas.{turned_area}
use Rattle.snap_setup.proofs.Floors.{rounded_near}
use Rattle.snap_setup.proofs.Tops.{top_held}
use Rattle.snap_setup.proofs.KeptPieces.{kept_from, kept_cons}
use Rattle.snap_setup.proofs.Reached.{in_sight, nearness_is}

-- what holds of each holds of a member
pub held_by_member : (P : Piece → Type 0) (ts : List Piece) (t : Piece) → All P ts → Contains ts t → P t
held_by_member P ts t h (k, lt, is) = subst P is (h k t lt)

-- what holds of each triangle that isn't left out, once it is turned, holds of each piece that is kept
pub kept_more : (P : Piece → Type 0) (winding : Winding) (t : Piece) (ts : List Piece) → (is_left_out winding t ≡ false → P (turned t)) → All P (kept_from winding ts) → All P (kept_from winding (t ∷ ts))
kept_more P winding t ts here rest = subst (All P) (sym (kept_cons winding t ts)) (by (is_left_out winding t) refl)
  where
    by : (b : Bool) → is_left_out winding t ≡ b → All P (option_to_list (cond b None (Some (turned t))) ++ kept_from winding ts)
    by true e = rest
    by false e = All-cons P (turned t) (kept_from winding ts) (here e) rest

-- points in reach are snapped into range
held : (grade : Grade) (a b : ℕ) → a ≡ b → a ≤ top_of grade → b ≤ HELD_TOP
held grade a b e h = omega (arith, e, h, top_held grade)

snapped_nearness : (p : HomPoint) (grade : Grade) (near : ℕ) (side : Side) → 1 ≤ near → near ≤ 1024 → IsInReach near p → nearness_of p (top_of grade) near side ≤ HELD_TOP
snapped_nearness p grade near Occluder hn le r = let k = nearness_is (top_of grade) near p hn le r in held grade _ _ k.down_is k.down_small
snapped_nearness p grade near Object hn le r = let k = nearness_is (top_of grade) near p hn le r in held grade _ _ k.up_is k.up_small

pub snapped_is : (p : HomPoint) (grade : Grade) (near : ℕ) (size : Dimensions) (side : Side) → IsSize size.width size.height → 1 ≤ near → near ≤ 1024 → IsInReach near p → IsSnapped (snapped p (top_of grade) near size side)
unfolding snapped
snapped_is p grade near size side valid hn le r =
    let s = in_sight near p hn le r in
    let x = rounded_near size.width (p.x +ℤ p.w) p.w valid.within_width s.w_least (omega (arith, ints, s.x_beside, s.w_least)) (omega (arith, ints, s.x_beside, s.w_least)) in
    let y = rounded_near size.height (p.w -ℤ p.y) p.w valid.within_height s.w_least (omega (arith, ints, s.y_beside, s.w_least)) (omega (arith, ints, s.y_beside, s.w_least)) in
    record {
      x_within = (omega (arith, ints, x), omega (arith, ints, x));
      y_within = (omega (arith, ints, y), omega (arith, ints, y));
      nearness_within = snapped_nearness p grade near side hn le r;
    }

-- a triangle of such points with a positive area is a piece
piece_is : (a b c : Snapped) → IsSnapped a → IsSnapped b → IsSnapped c → pos 0 <ℤ doubled_area (triangle a b c) → IsPiece (triangle a b c)
piece_is a b c ha hb hc area = record {
  positive_area = area;
  x_within = three IsCoordinate a.x b.x c.x ha.x_within hb.x_within hc.x_within;
  y_within = three IsCoordinate a.y b.y c.y ha.y_within hb.y_within hc.y_within;
  nearness_within = All-cons (λ q. q ≤ HELD_TOP) a.q (b.q ∷ c.q ∷ []) ha.nearness_within (All-cons (λ q. q ≤ HELD_TOP) b.q (c.q ∷ []) hb.nearness_within (All-cons (λ q. q ≤ HELD_TOP) c.q [] hc.nearness_within (All-nil (λ q. q ≤ HELD_TOP))));
  three_x = refl;
  three_y = refl;
  three_q = refl;
}
  where
    three : (P : ℤ → Type 0) (x y z : ℤ) → P x → P y → P z → All P (x ∷ y ∷ z ∷ [])
    three P x y z p q r = All-cons P x (y ∷ z ∷ []) p (All-cons P y (z ∷ []) q (All-cons P z [] r (All-nil P)))

turned_is : (winding : Winding) (a b c : Snapped) → IsSnapped a → IsSnapped b → IsSnapped c → is_left_out winding (triangle a b c) ≡ false → IsPiece (turned (triangle a b c))
turned_is winding a b c ha hb hc kept = by (int_lt (doubled_area (triangle a b c)) (pos 0)) refl
  where
    some : int_eq (doubled_area (triangle a b c)) (pos 0) ≡ false
    some = (or_parts (int_eq (doubled_area (triangle a b c)) (pos 0)) (is_dropped winding (doubled_area (triangle a b c))) kept).0

    above : (z : ℤ) → int_eq z (pos 0) ≡ false → int_lt z (pos 0) ≡ false → pos 0 <ℤ z
    above z e f = grind (arith, ints)

    under : (z : ℤ) → int_lt z (pos 0) ≡ true → z <ℤ pos 0
    under z e = grind (arith, ints)

    by : (n : Bool) → int_lt (doubled_area (triangle a b c)) (pos 0) ≡ n → IsPiece (cond n (exchanged (triangle a b c)) (triangle a b c))
    by true e = piece_is a c b ha hc hb (turned_area a b c (doubled_area (triangle a b c)) refl (under (doubled_area (triangle a b c)) e))
    by false e = piece_is a b c ha hb hc (above (doubled_area (triangle a b c)) some e)

kept_are_pieces : (winding : Winding) (points : List Snapped) → All IsSnapped points → All IsPiece (kept_from winding (triangles_of points))
kept_are_pieces winding [] h = All-nil IsPiece
kept_are_pieces winding (a ∷ []) h = All-nil IsPiece
kept_are_pieces winding (a ∷ b ∷ []) h = All-nil IsPiece
kept_are_pieces winding (a ∷ b ∷ c ∷ []) h = kept_more IsPiece winding (triangle a b c) [] (turned_is winding a b c (h 0 a (omega arith)) (h 1 a (omega arith)) (h 2 a (omega arith))) (All-nil IsPiece)
kept_are_pieces winding (a ∷ b ∷ c ∷ d ∷ []) h =
    kept_more IsPiece winding (triangle a b c) (triangle a c d ∷ []) (turned_is winding a b c (h 0 a (omega arith)) (h 1 a (omega arith)) (h 2 a (omega arith)))
    (kept_more IsPiece winding (triangle a c d) [] (turned_is winding a c d (h 0 a (omega arith)) (h 2 a (omega arith)) (h 3 a (omega arith))) (All-nil IsPiece))
kept_are_pieces winding (a ∷ b ∷ c ∷ d ∷ e ∷ es) h = All-nil IsPiece

pub map_all : (f : HomPoint → Snapped) (P : HomPoint → Type 0) (Q : Snapped → Type 0) (ps : List HomPoint) → ((p : HomPoint) → P p → Q (f p)) → All P ps → All Q (map f ps)
map_all f P Q [] to h = All-nil Q
map_all f P Q (p ∷ ps) to h = All-cons Q (f p) (map f ps) (to p (h 0 p (omega arith))) (map_all f P Q ps to (λ k d lt. h (suc k) d (omega arith)))

-- each piece of a triangle is one
pub pieces_are : (v0 v1 v2 : ClipVertex) (grade : Grade) (near : ℕ) (size : Dimensions) (winding : Winding) (side : Side) → IsSize size.width size.height → 1 ≤ near → near ≤ 1024 → All IsPiece (pieces_of v0 v1 v2 (top_of grade) near size winding side)
unfolding pieces_of kept_of snapped_part
pieces_are v0 v1 v2 grade near size winding side valid hn le = by (is_any_past_guard v0 v1 v2 near) refl
  where
    ps : List HomPoint
    ps = near_part v0 v1 v2 near

    by : (b : Bool) → is_any_past_guard v0 v1 v2 near ≡ b → All IsPiece (cond b [] (kept_from winding (triangles_of (map (λ p. snapped p (top_of grade) near size side) (near_part v0 v1 v2 near)))))
    by true e = All-nil IsPiece
    by false e =
        let (g0, rest) = or_parts _ _ e in let (g1, g2) = or_parts _ _ rest in
        let reach = near_part_reaches v0 v1 v2 near le (guarded v0 near g0) (guarded v1 near g1) (guarded v2 near g2) in
        kept_are_pieces winding _ (map_all (λ p. snapped p (top_of grade) near size side) (IsInReach near) IsSnapped (near_part v0 v1 v2 near) (λ p r. snapped_is p grade near size side valid hn le r) reach)

pub pieces_of_triangle_are : (v : List ClipVertex) (grade : Grade) (near : ℕ) (size : Dimensions) (winding : Winding) (side : Side) → IsSize size.width size.height → 1 ≤ near → near ≤ 1024 → All IsPiece (pieces_of_triangle v (top_of grade) near size winding side)
pieces_of_triangle_are v grade near size winding side valid hn le = pieces_are (corner v 0) (corner v 1) (corner v 2) grade near size winding side valid hn le

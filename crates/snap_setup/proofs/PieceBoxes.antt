-- The box of a piece lies in the near box of its triangle, and is that box where nothing is cut and nothing left out.
use Rattle.std.proofs.Common.{◌≡◌, ℕ, ℤ, pos, negsuc, ◌≤ℤ◌, List, [], ◌∷◌, ◌++◌, map, option_to_list, length, not, ◌&&◌, Bool, true, false, cond, Option, Some, None, arith, refl, sym, ap, ◌∙◌, int_lt}
use Rattle.std.specs.Int.{int_min, int_max}
use Rattle.std.specs.List.{All, Contains, list_all}
use Rattle.std.proofs.lemmas.Bool.{and_parts, and_from}
use Rattle.std.proofs.lemmas.Int.{ints, clamps}
use Rattle.std.proofs.lemmas.List.Elements.{All-nil}
use Rattle.cull_base.specs.declared.clip.ClipVertex.{ClipVertex}
use Rattle.cull_base.specs.declared.rect.Rect.{Rect}
use Rattle.cull_base.specs.declared.triangle.Side.{Side}
use Rattle.cull_base.specs.declared.triangle.Winding.{Winding}
use Rattle.cull_base.specs.NearPlane.{is_behind}
use Rattle.cull_base.specs.Piece.{Piece, doubled_area, least_of, greatest_of, first_pixel, end_pixel, box_around, box_of}
use Rattle.cull_base.specs.Rectangle.{HasPixel, IsWithin}
use Rattle.cull_base.specs.Screen.{Dimensions}
use Rattle.near_clip.specs.declared.hom_point.HomPoint.{HomPoint}
use Rattle.near_clip.specs.NearPart.{near_part, whole, corner, is_in_front}
use Rattle.snap_setup.specs.declared.snapping.Snapped.{Snapped}
use Rattle.snap_setup.specs.Snapping.{snapped, screen_x, screen_y}
use Rattle.snap_setup.specs.Pieces.{triangle, triangles_of, is_left_out, exchanged, turned, kept_of, snapped_part, is_any_past_guard, is_all_in_front, pieces_of, polygon_box, near_box_of}
use Rattle.snap_setup.specs.Triangles.{pieces_of_triangle, near_box_of_triangle}
use Rattle.snap_setup.proofs.KeptPieces.{kept_from, kept_cons, fronts}
use Rattle.snap_setup.proofs.ValidPieces.{kept_more, held_by_member}

pub within_pixel : (a b : Rect) (x y : ℤ) → IsWithin a b → HasPixel a x y → HasPixel b x y
within_pixel a b x y h p = (omega (arith, ints, h.x0, p.0), omega (arith, ints, h.x1, p.1), omega (arith, ints, h.y0, p.2), omega (arith, ints, h.y1, p.3))

first_pixel-le : (a b : ℤ) → a ≤ℤ b → first_pixel a ≤ℤ first_pixel b
first_pixel-le (pos m) (pos n) le = omega (arith, ints, le)
first_pixel-le (negsuc m) (pos n) le = omega (arith, ints)
first_pixel-le (negsuc m) (negsuc n) le = omega (arith, ints, le)
first_pixel-le (pos m) (negsuc n) le = absurd (omega (arith, ints, le))

-- numbers between the least and the greatest of some others
record Spans (vs us : List ℤ) : Type 0 where
  least : least_of vs ≤ℤ least_of us
  greatest : greatest_of us ≤ℤ greatest_of vs

boxes_within : (xs ys us vs : List ℤ) → Spans xs us → Spans ys vs → IsWithin (box_around us vs) (box_around xs ys)
boxes_within xs ys us vs h v = record {
  x0 = first_pixel-le (least_of xs) (least_of us) h.least;
  y0 = first_pixel-le (least_of ys) (least_of vs) v.least;
  x1 = after (greatest_of us) (greatest_of xs) h.greatest;
  y1 = after (greatest_of vs) (greatest_of ys) v.greatest;
}
  where
    after : (a b : ℤ) → a ≤ℤ b → end_pixel a ≤ℤ end_pixel b
    after a b le = let k = first_pixel-le a b le in omega (arith, ints, k)

three : (a b c : ℤ) → Spans (a ∷ b ∷ c ∷ []) (a ∷ b ∷ c ∷ [])
three a b c = record { least = omega (arith, ints, clamps); greatest = omega (arith, ints, clamps) }

three_turned : (a b c : ℤ) → Spans (a ∷ b ∷ c ∷ []) (a ∷ c ∷ b ∷ [])
three_turned a b c = record { least = omega (arith, ints, clamps); greatest = omega (arith, ints, clamps) }

first_three : (a b c d : ℤ) → Spans (a ∷ b ∷ c ∷ d ∷ []) (a ∷ b ∷ c ∷ [])
first_three a b c d = record { least = omega (arith, ints, clamps); greatest = omega (arith, ints, clamps) }

first_turned : (a b c d : ℤ) → Spans (a ∷ b ∷ c ∷ d ∷ []) (a ∷ c ∷ b ∷ [])
first_turned a b c d = record { least = omega (arith, ints, clamps); greatest = omega (arith, ints, clamps) }

last_three : (a b c d : ℤ) → Spans (a ∷ b ∷ c ∷ d ∷ []) (a ∷ c ∷ d ∷ [])
last_three a b c d = record { least = omega (arith, ints, clamps); greatest = omega (arith, ints, clamps) }

last_turned : (a b c d : ℤ) → Spans (a ∷ b ∷ c ∷ d ∷ []) (a ∷ d ∷ c ∷ [])
last_turned a b c d = record { least = omega (arith, ints, clamps); greatest = omega (arith, ints, clamps) }

-- a turned triangle lies where the triangle lies
turned_within : (xs ys : List ℤ) (a b c : Snapped) → Spans xs (a.x ∷ b.x ∷ c.x ∷ []) → Spans xs (a.x ∷ c.x ∷ b.x ∷ []) → Spans ys (a.y ∷ b.y ∷ c.y ∷ []) → Spans ys (a.y ∷ c.y ∷ b.y ∷ [])
    → IsWithin (box_of (turned (triangle a b c))) (box_around xs ys)
turned_within xs ys a b c x x' y y' = by (int_lt (doubled_area (triangle a b c)) (pos 0))
  where
    by : (n : Bool) → IsWithin (box_of (cond n (exchanged (triangle a b c)) (triangle a b c))) (box_around xs ys)
    by true = boxes_within xs ys (a.x ∷ c.x ∷ b.x ∷ []) (a.y ∷ c.y ∷ b.y ∷ []) x' y'
    by false = boxes_within xs ys (a.x ∷ b.x ∷ c.x ∷ []) (a.y ∷ b.y ∷ c.y ∷ []) x y

abbrev xs_of : List Snapped → List ℤ
xs_of points = map (λ s. s.x) points

abbrev ys_of : List Snapped → List ℤ
ys_of points = map (λ s. s.y) points

kept_within : (winding : Winding) (points : List Snapped) → All (λ t. IsWithin (box_of t) (box_around (xs_of points) (ys_of points))) (kept_from winding (triangles_of points))
kept_within winding [] = All-nil _
kept_within winding (a ∷ []) = All-nil _
kept_within winding (a ∷ b ∷ []) = All-nil _
kept_within winding (a ∷ b ∷ c ∷ []) =
    let P : Piece → Type 0 = λ t. IsWithin (box_of t) (box_around (a.x ∷ b.x ∷ c.x ∷ []) (a.y ∷ b.y ∷ c.y ∷ [])) in
    kept_more P winding (triangle a b c) [] (λ e. turned_within _ _ a b c (three a.x b.x c.x) (three_turned a.x b.x c.x) (three a.y b.y c.y) (three_turned a.y b.y c.y)) (All-nil P)
kept_within winding (a ∷ b ∷ c ∷ d ∷ []) =
    let P : Piece → Type 0 = λ t. IsWithin (box_of t) (box_around (a.x ∷ b.x ∷ c.x ∷ d.x ∷ []) (a.y ∷ b.y ∷ c.y ∷ d.y ∷ [])) in
    kept_more P winding (triangle a b c) (triangle a c d ∷ []) (λ e. turned_within _ _ a b c (first_three a.x b.x c.x d.x) (first_turned a.x b.x c.x d.x) (first_three a.y b.y c.y d.y) (first_turned a.y b.y c.y d.y))
    (kept_more P winding (triangle a c d) [] (λ e. turned_within _ _ a c d (last_three a.x b.x c.x d.x) (last_turned a.x b.x c.x d.x) (last_three a.y b.y c.y d.y) (last_turned a.y b.y c.y d.y)) (All-nil P))
kept_within winding (a ∷ b ∷ c ∷ d ∷ e ∷ es) = All-nil _

xs_are : (ps : List HomPoint) (top near : ℕ) (size : Dimensions) (side : Side) → map (λ p. screen_x p size) ps ≡ xs_of (map (λ p. snapped p top near size side) ps)
unfolding snapped
xs_are [] top near size side = refl
xs_are (p ∷ ps) top near size side = ap (λ (xs : List ℤ). screen_x p size ∷ xs) (xs_are ps top near size side)

ys_are : (ps : List HomPoint) (top near : ℕ) (size : Dimensions) (side : Side) → map (λ p. screen_y p size) ps ≡ ys_of (map (λ p. snapped p top near size side) ps)
unfolding snapped
ys_are [] top near size side = refl
ys_are (p ∷ ps) top near size side = ap (λ (ys : List ℤ). screen_y p size ∷ ys) (ys_are ps top near size side)

-- the box of a polygon that has a point
polygon_box-some : (p : HomPoint) (ps : List HomPoint) (top near : ℕ) (size : Dimensions) (side : Side) → let points = map (λ p. snapped p top near size side) (p ∷ ps) in
    polygon_box (p ∷ ps) size ≡ Some (box_around (xs_of points) (ys_of points))
polygon_box-some p ps top near size side =
    ap (λ (xs : List ℤ). Some (box_around xs (map (λ q. screen_y q size) (p ∷ ps)))) (xs_are (p ∷ ps) top near size side)
    ∙ ap (λ (ys : List ℤ). Some (box_around (xs_of (map (λ q. snapped q top near size side) (p ∷ ps))) ys)) (ys_are (p ∷ ps) top near size side)

-- a box that is there, with the box of a piece in it
pub record BoxHolds (box : Option Rect) (t : Piece) : Type 0 where
  pub rect : Rect
  pub is : box ≡ Some rect
  pub within : IsWithin (box_of t) rect

kept_in_box : (ps : List HomPoint) (top near : ℕ) (size : Dimensions) (side : Side) (winding : Winding) (t : Piece) →
    Contains (kept_from winding (triangles_of (map (λ p. snapped p top near size side) ps))) t → BoxHolds (polygon_box ps size) t
kept_in_box [] top near size side winding t (k, lt, is) = absurd (omega (arith, lt))
kept_in_box (p ∷ ps) top near size side winding t m =
    let points = map (λ q. snapped q top near size side) (p ∷ ps) in
    record {
      rect = box_around (xs_of points) (ys_of points);
      is = polygon_box-some p ps top near size side;
      within = held_by_member (λ u. IsWithin (box_of u) (box_around (xs_of points) (ys_of points))) _ t (kept_within winding points) m;
    }

pub piece_in_near_box : (v0 v1 v2 : ClipVertex) (top near : ℕ) (size : Dimensions) (winding : Winding) (side : Side) (t : Piece) → Contains (pieces_of v0 v1 v2 top near size winding side) t → BoxHolds (near_box_of v0 v1 v2 near size) t
unfolding pieces_of kept_of snapped_part near_box_of
piece_in_near_box v0 v1 v2 top near size winding side t m = by (is_any_past_guard v0 v1 v2 near) m
  where
    by : (b : Bool) → Contains (cond b [] (kept_from winding (triangles_of (map (λ p. snapped p top near size side) (near_part v0 v1 v2 near))))) t → BoxHolds (polygon_box (near_part v0 v1 v2 near) size) t
    by true (k, lt, is) = absurd (omega (arith, lt))
    by false n = kept_in_box (near_part v0 v1 v2 near) top near size side winding t n

-- the box of a triangle of which nothing is cut, where it has a piece
least_turned : (a b c : ℤ) → int_min (int_min a c) b ≡ int_min (int_min a b) c
least_turned a b c = omega (arith, ints, clamps)

greatest_turned : (a b c : ℤ) → int_max (int_max a c) b ≡ int_max (int_max a b) c
greatest_turned a b c = omega (arith, ints, clamps)

turned_box : (a b c : Snapped) → box_of (turned (triangle a b c)) ≡ box_around (a.x ∷ b.x ∷ c.x ∷ []) (a.y ∷ b.y ∷ c.y ∷ [])
turned_box a b c = by (int_lt (doubled_area (triangle a b c)) (pos 0))
  where
    by : (n : Bool) → box_of (cond n (exchanged (triangle a b c)) (triangle a b c)) ≡ box_around (a.x ∷ b.x ∷ c.x ∷ []) (a.y ∷ b.y ∷ c.y ∷ [])
    by true = rw (least_turned a.x b.x c.x, least_turned a.y b.y c.y, greatest_turned a.x b.x c.x, greatest_turned a.y b.y c.y) refl
    by false = refl

only_kept : (winding : Winding) (a b c : Snapped) (t : Piece) → kept_from winding (triangle a b c ∷ []) ≡ t ∷ [] → t ≡ turned (triangle a b c)
only_kept winding a b c t e = by (is_left_out winding (triangle a b c)) (sym (kept_cons winding (triangle a b c) []) ∙ e)
  where
    by : (b' : Bool) → option_to_list (cond b' None (Some (turned (triangle a b c)))) ++ [] ≡ t ∷ [] → t ≡ turned (triangle a b c)
    by true e = absurd cc
    by false e = cc

pub whole_box : (v0 v1 v2 : ClipVertex) (top near : ℕ) (size : Dimensions) (winding : Winding) (side : Side) (t : Piece) → is_all_in_front v0 v1 v2 near ≡ true → pieces_of v0 v1 v2 top near size winding side ≡ t ∷ []
    → near_box_of v0 v1 v2 near size ≡ Some (box_of t)
unfolding pieces_of kept_of snapped_part near_box_of near_part
whole_box v0 v1 v2 top near size winding side t front e =
    let (a, b, c) = fronts v0 v1 v2 near front in
    let point : HomPoint → Snapped = λ p. snapped p top near size side in
    let kept = rw (a, b, c) at (by (is_any_past_guard v0 v1 v2 near) e) in
    let is = only_kept winding (point (whole v0)) (point (whole v1)) (point (whole v2)) t kept in
    let box = polygon_box-some (whole v0) (whole v1 ∷ whole v2 ∷ []) top near size side in
    rw (a, b, c) (box ∙ ap (λ (r : Rect). Some r) (sym (ap box_of is ∙ turned_box (point (whole v0)) (point (whole v1)) (point (whole v2)))))
  where
    by : (b : Bool) → cond b [] (kept_from winding (triangles_of (map (λ p. snapped p top near size side) (near_part v0 v1 v2 near)))) ≡ t ∷ [] → kept_from winding (triangles_of (map (λ p. snapped p top near size side) (near_part v0 v1 v2 near))) ≡ t ∷ []
    by true e = absurd cc
    by false e = e

-- the same of a triangle that is given as a list of its vertices
pub piece_in_box_of_triangle : (v : List ClipVertex) (top near : ℕ) (size : Dimensions) (winding : Winding) (side : Side) (t : Piece) → Contains (pieces_of_triangle v top near size winding side) t → BoxHolds (near_box_of_triangle v near size) t
piece_in_box_of_triangle v top near size winding side t m = piece_in_near_box (corner v 0) (corner v 1) (corner v 2) top near size winding side t m

pub whole_box_of_triangle : (v : List ClipVertex) (top near : ℕ) (size : Dimensions) (winding : Winding) (side : Side) (t : Piece) → length v ≡ 3 → list_all (λ u. not (is_behind near u)) v ≡ true
    → pieces_of_triangle v top near size winding side ≡ t ∷ [] → near_box_of_triangle v near size ≡ Some (box_of t)
whole_box_of_triangle [] top near size winding side t l front e = absurd (omega arith)
whole_box_of_triangle (a ∷ []) top near size winding side t l front e = absurd (omega arith)
whole_box_of_triangle (a ∷ b ∷ []) top near size winding side t l front e = absurd (omega arith)
whole_box_of_triangle (a ∷ b ∷ c ∷ []) top near size winding side t l front e =
    let (fa, rest) = and_parts (not (is_behind near a)) (not (is_behind near b) && (not (is_behind near c) && true)) front in
    let (fb, more) = and_parts (not (is_behind near b)) (not (is_behind near c) && true) rest in
    let (fc, end) = and_parts (not (is_behind near c)) true more in
    whole_box a b c top near size winding side t (in_front a b c near fa fb fc) e
  where
    front_of : (v : ClipVertex) (near : ℕ) → not (is_behind near v) ≡ true → is_in_front v near ≡ true
    front_of v near e = grind (arith, ints)

    in_front : (a b c : ClipVertex) (near : ℕ) → not (is_behind near a) ≡ true → not (is_behind near b) ≡ true → not (is_behind near c) ≡ true → is_all_in_front a b c near ≡ true
    in_front a b c near ea eb ec = and_from _ _ (front_of a near ea) (and_from _ _ (front_of b near eb) (front_of c near ec))
whole_box_of_triangle (a ∷ b ∷ c ∷ d ∷ v) top near size winding side t l front e = absurd (omega arith)

-- One test for both sides: the bias of an edge's value.
use Rattle.std.proofs.Common.{List, length, slice_index_or, ◌<◌, ◌+◌, ◌*◌, ◌/◌, ◌%◌, ◌≡◌, ℕ, ℤ, pos, negsuc, zero, suc, ◌+ℤ◌, arith, refl, Bool, true, false, cond, ◌&&◌, ◌||◌, int_lt, int_le, ◌∙◌}
use Rattle.std.specs.Ordering.{int_eq}
use Rattle.std.specs.List.{All}
use Rattle.std.proofs.lemmas.Int.{ints}
use Rattle.std.proofs.lemmas.Bool.Decides.{nat_tests}
use Rattle.std.proofs.lemmas.List.Elements.{All-get_or}
use Rattle.cull_base.specs.Piece.{Piece, Point, IsCoordinate, edge_value, middle, is_top_or_left, edge_covers, edge_touches, covers, touches, covered, touched, sample, vertex}
use Rattle.cull_base.specs.declared.triangle.Side.{Side}
use Rattle.cull_base.specs.declared.triangle.Side.TheVariants.{Occluder, Object}
use Rattle.cull_base.specs.declared.place.Sub.{Sub}
use Rattle.edge_lanes.specs.Lanes.{is_not_negative}
use Rattle.edge_lanes.specs.Lines.{AreEdges, IsEdge, Line, Lines, counts_at, inside_lines, is_inside}
use Rattle.cull_base.proofs.Masks.{each_sample-same}

not_negative : (n : ℕ) → int_le (pos 0) (pos n) ≡ true
not_negative n = grind (arith, nat_tests)

is_positive : (n : ℕ) → int_lt (pos 0) (pos (suc n)) ≡ true
is_positive n = grind (arith, nat_tests)

unlowered : (v w : ℤ) → w ≡ v +ℤ pos 0 → is_not_negative w ≡ (int_lt (pos 0) v || (int_eq v (pos 0) && true))
unlowered (pos zero) w e = let f : w ≡ pos 0 = omega (arith, ints) in rw f refl
unlowered (pos (suc n)) w e = let f : w ≡ pos (suc n) = omega (arith, ints) in let p = not_negative (suc n) in let q = is_positive n in rw (f, p, q) refl
unlowered (negsuc n) w e = let f : w ≡ negsuc n = omega (arith, ints) in rw f refl

lowered : (v w : ℤ) → w ≡ v +ℤ negsuc 0 → is_not_negative w ≡ (int_lt (pos 0) v || (int_eq v (pos 0) && false))
lowered (pos zero) w e = let f : w ≡ negsuc 0 = omega (arith, ints) in rw f refl
lowered (pos (suc n)) w e = let f : w ≡ pos n = omega (arith, ints) in let p = not_negative n in let q = is_positive n in rw (f, p, q) refl
lowered (negsuc n) w e = let f : w ≡ negsuc (suc n) = omega (arith, ints) in rw f refl

-- an occluder's edge
pub is_not_negative-biased : (v : ℤ) (b : Bool) → is_not_negative (v +ℤ cond b (pos 0) (negsuc 0)) ≡ (int_lt (pos 0) v || (int_eq v (pos 0) && b))
is_not_negative-biased v true = unlowered v (v +ℤ pos 0) refl
is_not_negative-biased v false = lowered v (v +ℤ negsuc 0) refl

-- an object's edge
pub is_not_negative-plain : (v : ℤ) → is_not_negative (v +ℤ pos 0) ≡ int_le (pos 0) v
is_not_negative-plain v = let e : v +ℤ pos 0 ≡ v = omega (arith, ints) in rw e refl

-- a coordinate of a piece
pub coordinate_at : (xs : List ℤ) (k : ℕ) → All IsCoordinate xs → length xs ≡ 3 → k < 3 → IsCoordinate (slice_index_or xs k (pos 0))
coordinate_at xs k h l lt = All-get_or IsCoordinate xs k (pos 0) (omega arith) h

edge_of_occluder : (e : Line) (a b : Point) → IsEdge e Occluder a b → (x y : ℕ) → counts_at e x y ≡ edge_covers a b (middle x y)
edge_of_occluder e a b h x y = h x y ∙ is_not_negative-biased (edge_value a b (middle x y)) (is_top_or_left a b)

edge_of_object : (e : Line) (a b : Point) → IsEdge e Object a b → (x y : ℕ) → counts_at e x y ≡ edge_touches a b (middle x y)
edge_of_object e a b h x y = h x y ∙ is_not_negative-plain (edge_value a b (middle x y))

-- a test of each edge, which is that of the edge's values, and the test of all three
of_edges : (test : Point → Point → Point → Bool) (side : Side) → ((e : Line) (a b : Point) → IsEdge e side a b → (x y : ℕ) → counts_at e x y ≡ test a b (middle x y)) → (e : Lines) (t : Piece) → AreEdges e side t → (x y : ℕ)
    → is_inside e x y ≡ (test (vertex t 0) (vertex t 1) (middle x y) && (test (vertex t 1) (vertex t 2) (middle x y) && test (vertex t 2) (vertex t 0) (middle x y)))
of_edges test side edge e t h x y =
    let a = edge e.first (vertex t 0) (vertex t 1) h.first x y in
    let b = edge e.second (vertex t 1) (vertex t 2) h.second x y in
    let c = edge e.third (vertex t 2) (vertex t 0) h.third x y in
    rw (a, b, c) refl

occluder_at : (e : Lines) (t : Piece) → AreEdges e Occluder t → (x y : ℕ) → is_inside e x y ≡ covers t (middle x y)
unfolding covers
occluder_at = of_edges edge_covers Occluder edge_of_occluder

object_at : (e : Lines) (t : Piece) → AreEdges e Object t → (x y : ℕ) → is_inside e x y ≡ touches t (middle x y)
unfolding touches
object_at = of_edges edge_touches Object edge_of_object

pub inside_lines-covered : (e : Lines) (side : Side) (t : Piece) → AreEdges e side t → side ≡ Occluder → (u : Sub) → inside_lines e u ≡ covered t u
unfolding inside_lines covered
inside_lines-covered e side t h is u =
    let g = rw is at h in
    each_sample-same (λ k. is_inside e (8 * u.column + k % 8) (4 * u.row + k / 8)) (λ k. covers t (sample u k)) (λ k l. occluder_at e t g (8 * u.column + k % 8) (4 * u.row + k / 8))

pub inside_lines-touched : (e : Lines) (side : Side) (t : Piece) → AreEdges e side t → side ≡ Object → (u : Sub) → inside_lines e u ≡ touched t u
unfolding inside_lines touched
inside_lines-touched e side t h is u =
    let g = rw is at h in
    each_sample-same (λ k. is_inside e (8 * u.column + k % 8) (4 * u.row + k / 8)) (λ k. touches t (sample u k)) (λ k l. object_at e t g (8 * u.column + k % 8) (4 * u.row + k / 8))

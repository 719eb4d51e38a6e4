-- The plane of a piece has the piece's depth at each point.
use Rattle.std.proofs.Common.{◌≡◌, ℕ, ℤ, pos, negsuc, ◌<ℤ◌, ◌≤ℤ◌, ◌^◌, ◌+ℤ◌, ◌-ℤ◌, ◌*ℤ◌, ◌∙◌, ap, arith, refl, subst, sym}
use Rattle.std.specs.Int.RustNames.{unsigned_abs}
use Rattle.std.proofs.lemmas.Int.{ints}
use Rattle.cull_base.specs.Bounds.{Bounded}
use Rattle.cull_base.specs.Piece.{IsPiece, Piece, Point, vertex, nearness, sample, each_sample}
use Rattle.cull_base.specs.Depth.{numerator, denominator}
use Rattle.cull_base.proofs.Masks.{each_sample-same}
use Rattle.cull_base.proofs.Ring.{diff, diff-add, diff-sub, diff-mul, diff-same, pos_is, over2, over3, over4}
use Rattle.cull_base.specs.declared.place.Sub.{Sub}
use Rattle.depth_plane.specs.Vertices.{AreVertices, across_of, down_of, level_of, area_of}
use Rattle.depth_plane.specs.declared.vertices.Vertices.{Vertices}
use Rattle.depth_plane.specs.Plane.{Coefficients, IsPlane, coefficients, plane_of, numerator_at}
use Rattle.depth_plane.proofs.Mean.{edge}

abbrev by_edges : ℕ → ℕ → ℕ → ℤ → ℤ → ℤ → ℤ → ℤ → ℤ → ℤ → ℤ → ℤ
by_edges p q r ax ay bx by cx cy x y = ((pos p *ℤ edge bx by cx cy x y) +ℤ (pos q *ℤ edge cx cy ax ay x y)) +ℤ (pos r *ℤ edge ax ay bx by x y)

abbrev by_slopes : ℕ → ℕ → ℕ → ℤ → ℤ → ℤ → ℤ → ℤ → ℤ → ℤ → ℤ → ℤ
by_slopes p q r ax ay bx by cx cy x y =
    (((((pos p *ℤ (by -ℤ cy)) +ℤ (pos q *ℤ (cy -ℤ ay))) +ℤ (pos r *ℤ (ay -ℤ by))) *ℤ x)
    +ℤ ((((pos p *ℤ (cx -ℤ bx)) +ℤ (pos q *ℤ (ax -ℤ cx))) +ℤ (pos r *ℤ (bx -ℤ ax))) *ℤ y))
    +ℤ by_edges p q r ax ay bx by cx cy (pos 0) (pos 0)

slopes_are : (p q r : ℕ) (ax ay bx by cx cy x y : ℤ) → by_slopes p q r ax ay bx by cx cy x y ≡ by_edges p q r ax ay bx by cx cy x y
slopes_are p q r ax ay bx by cx cy x y =
    over4 (λ ax ay bx by. by_slopes p q r ax ay bx by cx cy x y ≡ by_edges p q r ax ay bx by cx cy x y)
    (λ a a' b b' c c' d d'. over4 (λ cx cy x y. by_slopes p q r (diff a a') (diff b b') (diff c c') (diff d d') cx cy x y ≡ by_edges p q r (diff a a') (diff b b') (diff c c') (diff d d') cx cy x y)
    (λ e e' f f' g g' h h'. simp (pos_is, diff-add, diff-sub, diff-mul) (diff-same _ _ _ _ (omega arith))) cx cy x y) ax ay bx by

pub numerator_at-plane_of : (t : Piece) (p : Point) → numerator_at (plane_of t) p ≡ numerator t p
unfolding plane_of
numerator_at-plane_of t p = slopes_are (nearness t 0) (nearness t 1) (nearness t 2) (vertex t 0).x (vertex t 0).y (vertex t 1).x (vertex t 1).y (vertex t 2).x (vertex t 2).y p.x p.y

pub area-plane_of : (t : Piece) → (plane_of t).area ≡ denominator t
unfolding plane_of
area-plane_of t = refl

-- the coefficients by how the vertices lie from the first one
across_from : (p q r ay by cy : ℤ) → ((q -ℤ p) *ℤ (cy -ℤ ay)) -ℤ ((r -ℤ p) *ℤ (by -ℤ ay)) ≡ ((p *ℤ (by -ℤ cy)) +ℤ (q *ℤ (cy -ℤ ay))) +ℤ (r *ℤ (ay -ℤ by))
across_from p q r ay by cy =
    over3 (λ p q r. ((q -ℤ p) *ℤ (cy -ℤ ay)) -ℤ ((r -ℤ p) *ℤ (by -ℤ ay)) ≡ ((p *ℤ (by -ℤ cy)) +ℤ (q *ℤ (cy -ℤ ay))) +ℤ (r *ℤ (ay -ℤ by)))
    (λ p p' q q' r r'. over3 (λ ay by cy. ((diff q q' -ℤ diff p p') *ℤ (cy -ℤ ay)) -ℤ ((diff r r' -ℤ diff p p') *ℤ (by -ℤ ay)) ≡ ((diff p p' *ℤ (by -ℤ cy)) +ℤ (diff q q' *ℤ (cy -ℤ ay))) +ℤ (diff r r' *ℤ (ay -ℤ by)))
    (λ a a' b b' c c'. simp (diff-add, diff-sub, diff-mul) (diff-same _ _ _ _ (omega arith))) ay by cy) p q r

down_from : (p q r ax bx cx : ℤ) → ((r -ℤ p) *ℤ (bx -ℤ ax)) -ℤ ((q -ℤ p) *ℤ (cx -ℤ ax)) ≡ ((p *ℤ (cx -ℤ bx)) +ℤ (q *ℤ (ax -ℤ cx))) +ℤ (r *ℤ (bx -ℤ ax))
down_from p q r ax bx cx = across_from p r q ax cx bx ∙ last_two (p *ℤ (cx -ℤ bx)) (r *ℤ (bx -ℤ ax)) (q *ℤ (ax -ℤ cx))
  where
    last_two : (a b c : ℤ) → (a +ℤ b) +ℤ c ≡ (a +ℤ c) +ℤ b
    last_two a b c = omega (arith, ints)

abbrev from_first : ℕ → ℕ → ℕ → ℤ → ℤ → ℤ → ℤ → ℤ → ℤ → ℤ
from_first p q r ax ay bx by cx cy =
    ((edge ax ay bx by cx cy *ℤ pos p)
    -ℤ ((((pos p *ℤ (by -ℤ cy)) +ℤ (pos q *ℤ (cy -ℤ ay))) +ℤ (pos r *ℤ (ay -ℤ by))) *ℤ ax))
    -ℤ ((((pos p *ℤ (cx -ℤ bx)) +ℤ (pos q *ℤ (ax -ℤ cx))) +ℤ (pos r *ℤ (bx -ℤ ax))) *ℤ ay)

level_from : (p q r : ℕ) (ax ay bx by cx cy : ℤ) → from_first p q r ax ay bx by cx cy ≡ by_edges p q r ax ay bx by cx cy (pos 0) (pos 0)
level_from p q r ax ay bx by cx cy =
    over4 (λ ax ay bx by. from_first p q r ax ay bx by cx cy ≡ by_edges p q r ax ay bx by cx cy (pos 0) (pos 0))
    (λ a a' b b' c c' d d'. over2 (λ cx cy. from_first p q r (diff a a') (diff b b') (diff c c') (diff d d') cx cy ≡ by_edges p q r (diff a a') (diff b b') (diff c c') (diff d d') cx cy (pos 0) (pos 0))
    (λ e e' f f'. simp (pos_is, diff-add, diff-sub, diff-mul) (diff-same _ _ _ _ (omega arith))) cx cy) ax ay bx by

pub area_of-vertices : (t : Piece) (v : Vertices) → AreVertices v t → area_of v ≡ denominator t
area_of-vertices t v h =
    let bx = h.second.x in let by = h.second.y in let cx = h.third.x in let cy = h.third.y in
    rw (bx, by, cx, cy) refl

pub plane_of-computed : (t : Piece) (v : Vertices) (a d l n : ℤ) → AreVertices v t → a ≡ across_of v → d ≡ down_of v → n ≡ area_of v → l ≡ level_of v a d n →
    record { across = a; down = d; level = l; area = n } ≡ plane_of t
unfolding plane_of
plane_of-computed t v a d l n h ea ed en el =
    let x = h.x in let y = h.y in let q = h.q in
    let bx = h.second.x in let by = h.second.y in let bq = h.second.q in
    let cx = h.third.x in let cy = h.third.y in let cq = h.third.q in
    let s = across_from (pos (nearness t 0)) (pos (nearness t 1)) (pos (nearness t 2)) (vertex t 0).y (vertex t 1).y (vertex t 2).y in
    let u = down_from (pos (nearness t 0)) (pos (nearness t 1)) (pos (nearness t 2)) (vertex t 0).x (vertex t 1).x (vertex t 2).x in
    let w = level_from (nearness t 0) (nearness t 1) (nearness t 2) (vertex t 0).x (vertex t 0).y (vertex t 1).x (vertex t 1).y (vertex t 2).x (vertex t 2).y in
    rw (el, en, ea, ed, x, y, q, bx, by, bq, cx, cy, cq, s, u, w) refl

-- a plane whose area is told by the size of a number: the number is positive, and its size is the number
pub positive : (t : Piece) (v : Vertices) (n : ℤ) → IsPiece t → AreVertices v t → n ≡ area_of v → pos 0 <ℤ n
positive t v n h a e = let f = area_of-vertices t v a in let p = h.positive_area in rw (e, f) p

pub size_is : (n : ℤ) (u : ℕ) → pos 0 <ℤ n → u ≡ unsigned_abs n → pos u ≡ n
size_is (pos k) u h e = ap pos e
size_is (negsuc k) u h e = absurd (omega (arith, ints, h))

same_area : (a d l m n : ℤ) (v : Coefficients) → m ≡ n → record { across = a; down = d; level = l; area = n } ≡ v → record { across = a; down = d; level = l; area = m } ≡ v
same_area a d l m n v e h = rw e h

pub plane_of-sized : (t : Piece) (v : Vertices) (a d l n m : ℤ) → m ≡ n → AreVertices v t → a ≡ across_of v → d ≡ down_of v → n ≡ area_of v → l ≡ level_of v a d n →
    record { across = a; down = d; level = l; area = m } ≡ plane_of t
plane_of-sized t v a d l n m e h ea ed en el = same_area a d l m n (plane_of t) e (plane_of-computed t v a d l n h ea ed en el)

within : (n m : ℤ) → Bounded (2 ^ 61) n → m ≡ n → m ≤ℤ pos (2 ^ 61)
within n m h e = omega (arith, ints, h, e)

pub plane-bounded : (a d l n m : ℤ) → m ≡ n → pos 0 <ℤ n → Bounded (2 ^ 56) a → Bounded (2 ^ 56) d → Bounded (2 ^ 87) l → Bounded (2 ^ 61) n → IsPlane (coefficients a d l m)
plane-bounded a d l n m e p across down level area = record { across = across; down = down; level = level; positive_area = subst (λ (z : ℤ). pos 0 <ℤ z) (sym e) p; area_within = within n m area e }

pub each_sample-plane_of : (t : Piece) (u : Sub) → each_sample (λ k. numerator_at (plane_of t) (sample u k)) ≡ each_sample (λ k. numerator t (sample u k))
each_sample-plane_of t u = each_sample-same (λ k. numerator_at (plane_of t) (sample u k)) (λ k. numerator t (sample u k)) (λ k l. numerator_at-plane_of t (sample u k))

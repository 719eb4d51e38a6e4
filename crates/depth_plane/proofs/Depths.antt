-- The bounds of a subtile hold at each sample that the piece touches.
use Rattle.std.proofs.Common.{◌≡◌, ℕ, ℤ, pos, negsuc, ◌≤◌, ◌<◌, ◌*ℤ◌, ◌≤ℤ◌, ◌<ℤ◌, arith, refl, true, false, cond, int_lt, max, ap, ◌∙◌}
use Rattle.std.specs.Int.{int_min, int_max}
use Rattle.std.proofs.lemmas.Int.{ints, clamps}
use Rattle.std.proofs.lemmas.List.Elements.{All-get_or}
use Rattle.cull_base.specs.Piece.{least_of, greatest_of, Piece, IsPiece, touches, sample, each_sample, nearness}
use Rattle.cull_base.specs.declared.nearness.TheConstants.{HELD_TOP}
use Rattle.cull_base.specs.Depth.{numerator, denominator, floor_of, ceiling_of, cut_to_range, least_nearness, greatest_nearness, low_of, high_of, DepthAtLeast}
use Rattle.cull_base.specs.declared.place.Sub.{Sub}
use Rattle.depth_plane.specs.Plane.{Coefficients, plane_of, numerator_at, low_from, DepthAtMost}
use Rattle.depth_plane.proofs.Products.{le_times}
use Rattle.depth_plane.proofs.Floors.{floor_of-le, ceiling_of-ge}
use Rattle.depth_plane.proofs.Corners.{least_of-le, greatest_of-ge}
use Rattle.depth_plane.proofs.Mean.{weights_of, numerator_above, numerator_below}
use Rattle.depth_plane.proofs.Planes.{area-plane_of, each_sample-plane_of}

in_range-le : (z : ℤ) → pos 0 ≤ℤ z → pos (cut_to_range HELD_TOP z) ≤ℤ z
in_range-le (pos n) h = omega (arith, ints)
in_range-le (negsuc n) h = absurd (omega (arith, ints, h))

in_range-ge : (z : ℤ) → z ≤ℤ pos HELD_TOP → z ≤ℤ pos (cut_to_range HELD_TOP z)
in_range-ge (pos n) h = let l : n ≤ HELD_TOP = omega (arith, ints, h) in omega (arith, ints)
in_range-ge (negsuc n) h = omega (arith, ints)

int_max-times : (x y d n : ℤ) → (x *ℤ d) ≤ℤ n → (y *ℤ d) ≤ℤ n → (int_max x y *ℤ d) ≤ℤ n
int_max-times x y d n a b = elim (int_lt y x) as (λ t. (cond t x y *ℤ d) ≤ℤ n) [ true ↦ a | false ↦ b ]

int_min-times : (x y d n : ℤ) → n ≤ℤ (x *ℤ d) → n ≤ℤ (y *ℤ d) → n ≤ℤ (int_min x y *ℤ d)
int_min-times x y d n a b = elim (int_lt y x) as (λ t. n ≤ℤ (cond t y x *ℤ d)) [ true ↦ b | false ↦ a ]

at_most : (r z d n : ℤ) → pos 0 <ℤ d → r ≤ℤ z → (z *ℤ d) ≤ℤ n → (r *ℤ d) ≤ℤ n
at_most r z d n h l k = let p = le_times r z d (omega (arith, ints, h)) l in omega (arith, ints, p, k)

at_least : (r z d n : ℤ) → pos 0 <ℤ d → z ≤ℤ r → n ≤ℤ (z *ℤ d) → n ≤ℤ (r *ℤ d)
at_least r z d n h l k = let p = le_times z r d (omega (arith, ints, h)) l in omega (arith, ints, p, k)

int_max-left : (x y : ℤ) → x ≤ℤ int_max x y
int_max-left x y = omega (arith, ints, clamps)

int_min-left : (x y : ℤ) → int_min x y ≤ℤ x
int_min-left x y = omega (arith, ints, clamps)

nearness_small : (t : Piece) (k : ℕ) → IsPiece t → k < 3 → nearness t k ≤ HELD_TOP
nearness_small t k h l = let three = h.three_q in All-get_or (λ q. q ≤ HELD_TOP) t.qs k 0 (omega arith) h.nearness_within

pub low_of-below : (t : Piece) (u : Sub) (k : ℕ) → IsPiece t → k < 32 → touches t (sample u k) ≡ true → DepthAtLeast t (sample u k) (low_of t u)
unfolding low_of
low_of-below t u k h lt e =
    let d = denominator t in
    let w = weights_of t (sample u k) e in
    let f : ℕ → ℤ = λ k. numerator t (sample u k) in
    let l = least_of (each_sample f) in
    let by_nearness = numerator_above t (sample u k) (least_nearness t) w (omega arith) (omega arith) (omega arith) in
    let by_floor = at_floor (floor_of l d *ℤ d) l (f k) (floor_of-le l d h.positive_area) (least_of-le f k lt) in
    let z = int_max (pos (least_nearness t)) (floor_of l d) in
    let s = int_max-left (pos (least_nearness t)) (floor_of l d) in
    at_most (pos (cut_to_range HELD_TOP z)) z d (f k) h.positive_area (in_range-le z (not_negative (least_nearness t) z s)) (int_max-times (pos (least_nearness t)) (floor_of l d) d (f k) by_nearness by_floor)
  where
    at_floor : (a b c : ℤ) → a ≤ℤ b → b ≤ℤ c → a ≤ℤ c
    at_floor a b c p q = omega (arith, ints)

    not_negative : (n : ℕ) (z : ℤ) → pos n ≤ℤ z → pos 0 ≤ℤ z
    not_negative n z p = omega (arith, ints)

pub high_of-above : (t : Piece) (u : Sub) (k : ℕ) → IsPiece t → k < 32 → touches t (sample u k) ≡ true → DepthAtMost t (sample u k) (high_of t u)
unfolding high_of
high_of-above t u k h lt e =
    let d = denominator t in
    let w = weights_of t (sample u k) e in
    let f : ℕ → ℤ = λ k. numerator t (sample u k) in
    let g = greatest_of (each_sample f) in
    let by_nearness = numerator_below t (sample u k) (greatest_nearness t) w (omega arith) (omega arith) (omega arith) in
    let by_ceiling = at_ceiling (f k) g (ceiling_of g d *ℤ d) (greatest_of-ge f k lt) (ceiling_of-ge g d h.positive_area) in
    let z = int_min (pos (greatest_nearness t)) (ceiling_of g d) in
    let s = int_min-left (pos (greatest_nearness t)) (ceiling_of g d) in
    let a = nearness_small t 0 h (omega arith) in let b = nearness_small t 1 h (omega arith) in let c = nearness_small t 2 h (omega arith) in
    at_least (pos (cut_to_range HELD_TOP z)) z d (f k) h.positive_area (in_range-ge z (small (greatest_nearness t) z (omega arith) s)) (int_min-times (pos (greatest_nearness t)) (ceiling_of g d) d (f k) by_nearness by_ceiling)
  where
    at_ceiling : (a b c : ℤ) → a ≤ℤ b → b ≤ℤ c → a ≤ℤ c
    at_ceiling a b c p q = omega (arith, ints)

    small : (n : ℕ) (z : ℤ) → n ≤ HELD_TOP → z ≤ℤ pos n → z ≤ℤ pos HELD_TOP
    small n z l p = omega (arith, ints)

-- the bounds as they are computed
pub low_of-computed : (t : Piece) (u : Sub) (v : Coefficients) (q r : ℕ) → v ≡ plane_of t → q ≡ least_nearness t → r ≡ low_from v q u → r ≡ low_of t u
unfolding low_of
low_of-computed t u v q r ev eq er =
    let s = each_sample-plane_of t u in let n = area-plane_of t in
    rw (er, eq, ev, s, n) refl

pub high_of-computed : (t : Piece) (u : Sub) (v : Coefficients) (q r : ℕ) (x l d f m : ℤ) → v ≡ plane_of t → q ≡ greatest_nearness t →
    x ≡ pos q → l ≡ greatest_of (each_sample (λ k. numerator_at v (sample u k))) → d ≡ v.area → f ≡ ceiling_of l d → m ≡ int_min x f → r ≡ cut_to_range HELD_TOP m → r ≡ high_of t u
unfolding high_of
high_of-computed t u v q r x l d f m ev eq ex el ed ef em er =
    let s = each_sample-plane_of t u in let n = area-plane_of t in
    rw (er, em, ef, ex, eq, el, ed, ev, s, n) refl

-- a floor is cut to the range first, and raised then
raised : (l : ℕ) (z : ℤ) → l ≤ HELD_TOP → max l (cut_to_range HELD_TOP (int_max (pos 0) z)) ≡ cut_to_range HELD_TOP (int_max (pos l) z)
raised l (pos n) le =
    let a : int_max (pos 0) (pos n) ≡ pos n = omega (arith, ints, clamps) in
    let b : int_max (pos l) (pos n) ≡ pos (max l n) = omega (arith, ints, clamps) in
    rw (a, b) (omega (arith, le))
raised l (negsuc n) le = omega (arith, le)

pub low_of-raised : (t : Piece) (u : Sub) (v : Coefficients) (r : ℕ) → v ≡ plane_of t → IsPiece t → r ≡ low_from v 0 u → max (least_nearness t) r ≡ low_of t u
low_of-raised t u v r ev piece er =
    let a = nearness_small t 0 piece (omega arith) in
    let b = nearness_small t 1 piece (omega arith) in
    let c = nearness_small t 2 piece (omega arith) in
    let le : least_nearness t ≤ HELD_TOP = omega (arith, a) in
    ap (max (least_nearness t)) er ∙ raised (least_nearness t) (floor_of (least_of (each_sample (λ k. numerator_at v (sample u k)))) v.area) le
    ∙ low_of-computed t u v (least_nearness t) (low_from v (least_nearness t) u) ev refl refl

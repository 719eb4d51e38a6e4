-- What it says of a point that it is in reach.
use Rattle.std.proofs.Common.{◌≡◌, FitsSigned, w64, to_z, of_z, ℕ, ℤ, pos, negsuc, zero, suc, sym, ap, ◌∙◌, ◌+◌, ◌*◌, ◌-◌, ◌^◌, ◌<◌, ◌≤◌, ◌≤ℤ◌, ◌+ℤ◌, ◌-ℤ◌, ◌*ℤ◌, arith, refl, ◌/◌, ◌%◌, min}
use Rattle.std.proofs.lemmas.Int.{ints, to_z-of_z}
use Rattle.std.proofs.Math.Nat.{mul-le-mul_left, mul-le-mul}
use Rattle.near_clip.specs.declared.hom_point.HomPoint.{HomPoint}
use Rattle.near_clip.specs.Reach.{IsInReach}
use Rattle.std.proofs.Math.Nat.{div-le_of_le-mul, div-add-mod, div-eq_of_lt-le, mod-lt, mul-div-mul_left, lt_of_mul-lt-mul_left}
use Rattle.std.specs.Int.{div_ceil}
use Rattle.std.specs.Int.RustNames.{unsigned_abs}
use Rattle.cull_base.specs.declared.nearness.TheConstants.{HELD_TOP}
use Rattle.cull_base.specs.declared.triangle.Side.{Side}
use Rattle.cull_base.specs.declared.triangle.Side.TheVariants.{Occluder, Object}
use Rattle.cull_base.specs.Screen.{Dimensions}
use Rattle.cull_base.specs.Bounds.{Bounded}
use Rattle.snap_setup.specs.Snapping.{round_half, screen_x, screen_y, nearness_of, addend_of, IsInSight}
use Rattle.snap_setup.proofs.Floors.{ceiling_is}

pub natural : (z : ℤ) → pos 0 ≤ℤ z → (n : ℕ) × (z ≡ pos n)
natural (pos n) h = (n, refl)
natural (negsuc n) h = absurd (omega (arith, ints, h))

-- the scale and w as naturals
pub record IsReached (near : ℕ) (p : HomPoint) (s w : ℕ) : Type 0 where
  pub scale_is : p.scale ≡ pos s
  pub w_is : p.w ≡ pos w
  pub scale_least : 1 ≤ s
  pub scale_most : s ≤ 2 ^ 25
  pub w_least : near * s ≤ w
  pub w_most : w ≤ 2 ^ 49
  pub x_bounded : Bounded (2 ^ 49) p.x
  pub y_bounded : Bounded (2 ^ 49) p.y

in_numbers : (near : ℕ) (x y : ℤ) (s w : ℕ) → near ≤ 1024 → let p : HomPoint = record { x = x; y = y; w = pos w; scale = pos s } in IsInReach near p → IsReached near p s w
in_numbers near x y s w le r =
    let least : near * s ≤ w = omega (arith, ints, r.w_least) in
    let small : s ≤ 2 ^ 25 = omega (arith, ints, r.scale_most) in
    let most : near * s ≤ 1024 * 2 ^ 25 = mul-le-mul le small in
    record {
      scale_is = refl;
      w_is = refl;
      scale_least = omega (arith, ints, r.scale_least);
      scale_most = small;
      w_least = least;
      w_most = omega (arith, ints, r.w_most, most);
      x_bounded = (omega (arith, ints, r.x_within, most), omega (arith, ints, r.x_within, most));
      y_bounded = (omega (arith, ints, r.y_within, most), omega (arith, ints, r.y_within, most));
    }

reached_from : (near : ℕ) (x y w s : ℤ) → near ≤ 1024 → pos 0 ≤ℤ s → pos 0 ≤ℤ w → let p : HomPoint = record { x = x; y = y; w = w; scale = s } in IsInReach near p → (m n : ℕ) × IsReached near p m n
reached_from near x y (pos w) (pos s) le hs hw r = (s, w, in_numbers near x y s w le r)
reached_from near x y (pos w) (negsuc s) le hs hw r = absurd (omega (arith, ints, hs))
reached_from near x y (negsuc w) s le hs hw r = absurd (omega (arith, ints, hw))

w_positive : (near : ℕ) (s w : ℤ) → pos 1 ≤ℤ s → (pos near *ℤ s) ≤ℤ w → pos 0 ≤ℤ w
w_positive near (pos s) w h k = omega (arith, ints, k)
w_positive near (negsuc s) w h k = absurd (omega (arith, ints, h))

pub reached : (near : ℕ) (p : HomPoint) → near ≤ 1024 → IsInReach near p → (s w : ℕ) × IsReached near p s w
reached near p le r = reached_from near p.x p.y p.w p.scale le (omega (arith, ints, r.scale_least)) (w_positive near p.scale p.w r.scale_least r.w_least) r

sight : (x y : ℤ) (s w near : ℕ) → 1 ≤ near → 1 ≤ s → near * s ≤ w → w ≤ 2 ^ 49 → let p : HomPoint = record { x = x; y = y; w = pos w; scale = pos s } in
    IsInReach near p → Bounded (2 ^ 49) x → Bounded (2 ^ 49) y → IsInSight p
sight x y s w near hn hs least most r hx hy =
    let one = mul-le-mul hn hs in
    record {
      w_least = omega (arith, ints, one, least);
      w_most = omega (arith, ints, most);
      x_beside = (omega (arith, ints, r.x_within, least), omega (arith, ints, r.x_within, least));
      y_beside = (omega (arith, ints, r.y_within, least), omega (arith, ints, r.y_within, least));
      x_bounded = hx;
      y_bounded = hy;
    }

sight_along : (near : ℕ) (x y s' w' : ℤ) (s w : ℕ) → s' ≡ pos s → w' ≡ pos w → 1 ≤ near → let p : HomPoint = record { x = x; y = y; w = w'; scale = s' } in
    IsReached near p s w → IsInReach near p → IsInSight p
sight_along near x y (pos s') (pos w') s w es ew hn k r =
    let a : s' ≡ s = omega (arith, ints, es) in
    let b : w' ≡ w = omega (arith, ints, ew) in
    let least : near * s' ≤ w' = rw (a, b) k.w_least in
    sight x y s' w' near hn (omega (arith, k.scale_least)) least (omega (arith, k.w_most)) r k.x_bounded k.y_bounded
sight_along near x y (negsuc s') w' s w es ew hn k r = absurd (omega (arith, ints, es))
sight_along near x y (pos s') (negsuc w') s w es ew hn k r = absurd (omega (arith, ints, ew))

-- what is in reach is in sight
pub in_sight : (near : ℕ) (p : HomPoint) → 1 ≤ near → near ≤ 1024 → IsInReach near p → IsInSight p
in_sight near p hn le h = let (s, w, r) = reached near p le h in sight_along near p.x p.y p.scale p.w s w r.scale_is r.w_is hn r h

pub x_is : (p : HomPoint) (size : Dimensions) (width : ℕ) (r : ℤ) → width ≡ size.width → r ≡ round_half (pos (8 * width) *ℤ (p.x +ℤ p.w)) p.w → r ≡ screen_x p size
x_is p size width r e h = rw (h, e) refl

pub y_is : (p : HomPoint) (size : Dimensions) (height : ℕ) (r : ℤ) → height ≡ size.height → r ≡ round_half (pos (8 * height) *ℤ (p.w -ℤ p.y)) p.w → r ≡ screen_y p size
y_is p size height r e h = rw (h, e) refl

-- the two roundings of nearness, as the code computes them
pub record IsNearness (top near : ℕ) (p : HomPoint) (down up : ℕ) : Type 0 where
  pub down_is : down ≡ nearness_of p top near Occluder
  pub up_is : up ≡ nearness_of p top near Object
  pub down_small : down ≤ top
  pub up_small : up ≤ top

quotient_small : (top n w : ℕ) → 0 < w → n ≤ top * w → n / w ≤ top
quotient_small top n w h le = div-le_of_le-mul w (omega (arith, le))

pub ceiling_small : (top n w : ℕ) → 0 < w → n ≤ top * w → n / w + min 1 (n % w) ≤ top
ceiling_small top n w h le = by_rest (n % w) refl
  where
    by_rest : (r : ℕ) → r ≡ n % w → n / w + min 1 (n % w) ≤ top
    by_rest zero e = omega (arith, quotient_small top n w h le)
    by_rest (suc k) e =
        let m = div-add-mod n w in
        let lt : w * (n / w) < w * top = omega (arith, m, e) in
        let q : n / w < top = lt_of_mul-lt-mul_left w lt in
        omega (arith, q)

nearness_in : (top near : ℕ) (x y : ℤ) (s w : ℕ) → let p : HomPoint = record { x = x; y = y; w = pos w; scale = pos s } in 1 ≤ near → 1 ≤ s → near * s ≤ w →
    IsNearness top near p (top * near * s / w) (div_ceil (top * near * s) w)
nearness_in top near x y s w hn hs le =
    let positive : 0 < w = omega (arith, mul-le-mul hn hs) in
    let most : top * near * s ≤ top * w = omega (arith, mul-le-mul_left top le) in
    record {
      down_is = refl;
      up_is = sym (ceiling_is (top * near * s) w positive);
      down_small = quotient_small top _ w positive most;
      up_small = ceiling_small top _ w positive most;
    }

nearness_along : (top near : ℕ) (x y s' w' : ℤ) (s w : ℕ) → s' ≡ pos s → w' ≡ pos w → let p : HomPoint = record { x = x; y = y; w = w'; scale = s' } in 1 ≤ near → 1 ≤ s → near * s ≤ w →
    IsNearness top near p (top * near * unsigned_abs s' / unsigned_abs w') (div_ceil (top * near * unsigned_abs s') (unsigned_abs w'))
nearness_along top near x y s' w' s w es ew hn hs le = rw (es, ew) (nearness_in top near x y s w hn hs le)

pub nearness_is : (top near : ℕ) (p : HomPoint) → 1 ≤ near → near ≤ 1024 → IsInReach near p →
    IsNearness top near p (top * near * unsigned_abs p.scale / unsigned_abs p.w) (div_ceil (top * near * unsigned_abs p.scale) (unsigned_abs p.w))
nearness_is top near p hn le h = let (s, w, r) = reached near p le h in nearness_along top near p.x p.y p.scale p.w s w r.scale_is r.w_is hn r.scale_least r.w_least

-- the nearness by the numbers that the code took
nearness_from : (top near : ℕ) (p : HomPoint) (a n w : ℕ) → 1 ≤ near → near ≤ 1024 → IsInReach near p →
    a ≡ unsigned_abs p.scale → n ≡ top * near * a → w ≡ unsigned_abs p.w → IsNearness top near p (n / w) (div_ceil n w)
nearness_from top near p a n w hn le h ea en ew = let k = nearness_is top near p hn le h in rw (en, ea, ew) k

pub numerator_small : (near s a b : ℕ) → a ≤ HELD_TOP → b ≡ near → near ≤ 1024 → s ≤ 2 ^ 25 → a * b * s ≤ HELD_TOP * 2 ^ 35
numerator_small near s a b ha eb hn hs = let k = mul-le-mul (mul-le-mul ha hn) hs in rw eb (omega (arith, k))

-- a quotient that is rounded up by what was added
rounded_up : (n w : ℕ) → 0 < w → (n + (w - 1)) / w ≡ div_ceil n w
rounded_up n w h = by_rest (n % w) refl
  where
    by_rest : (r : ℕ) → r ≡ n % w → (n + (w - 1)) / w ≡ n / w + min 1 (n % w)
    by_rest zero e =
        let m = div-add-mod n w in
        let k : n / w + min 1 (n % w) ≡ n / w = omega (arith, e) in
        rw k (div-eq_of_lt-le w {m = n + (w - 1)} (omega (arith, m, e, h)) (omega (arith, m, e, h)))
    by_rest (suc r) e =
        let m = div-add-mod n w in
        let k : n / w + min 1 (n % w) ≡ n / w + 1 = omega (arith, e) in
        let lt : n % w < w = mod-lt n h in
        rw k (div-eq_of_lt-le w {m = n + (w - 1)} (omega (arith, m, e, h)) (omega (arith, m, e, h, lt)))

-- the nearness of one side, and a bound on it
pub record IsRoundedNearness (top near : ℕ) (p : HomPoint) (side : Side) (q : ℕ) : Type 0 where
  pub value : q ≡ nearness_of p top near side
  pub within : q ≤ top

by_side : (side : Side) (top near : ℕ) (p : HomPoint) (n w : ℕ) → 0 < w → IsNearness top near p (n / w) (div_ceil n w) → IsRoundedNearness top near p side ((n + addend_of side w) / w)
by_side Occluder top near p n w h k = let e : n + 0 ≡ n = omega arith in rw e (record { value = k.down_is; within = k.down_small })
by_side Object top near p n w h k = rw (rounded_up n w h) (record { value = k.up_is; within = k.up_small })

-- by the numbers that the code took
pub nearness_by_w : (side : Side) (top near : ℕ) (p : HomPoint) (a n w u q : ℕ) → 1 ≤ near → near ≤ 1024 → IsInReach near p → pos 1 ≤ℤ p.w → FitsSigned w64 p.scale → FitsSigned w64 p.w →
    a ≡ unsigned_abs (to_z w64 (of_z w64 p.scale)) → n ≡ top * near * a → w ≡ unsigned_abs (to_z w64 (of_z w64 p.w)) → u ≡ addend_of side w → q ≡ (n + u) / w →
    IsRoundedNearness top near p side q
nearness_by_w side top near p a n w u q hn le h least fs fw ea en ew eu eq =
    let es = simp to_z-of_z at ew in
    let k = nearness_from top near p a n w hn le h (simp to_z-of_z at ea) en es in
    let (b, eb) = natural p.w (omega (arith, ints, least)) in
    let wb : w ≡ b = rw eb at es in
    rw (eq, eu) (by_side side top near p n w (omega (arith, ints, least, eb, wb)) k)

-- the same by a divisor of twice w
pub nearness_doubled : (side : Side) (top near : ℕ) (p : HomPoint) (a n w d u q : ℕ) → 1 ≤ near → near ≤ 1024 → IsInReach near p → pos 1 ≤ℤ p.w → FitsSigned w64 p.scale → FitsSigned w64 p.w →
    a ≡ unsigned_abs (to_z w64 (of_z w64 p.scale)) → n ≡ top * near * a → w ≡ unsigned_abs (to_z w64 (of_z w64 p.w)) → pos d ≡ pos 2 *ℤ p.w → u ≡ addend_of side w → q ≡ 2 * (n + u) / d →
    IsRoundedNearness top near p side q
nearness_doubled side top near p a n w d u q hn le h least fs fw ea en ew ed eu eq =
    let es = simp to_z-of_z at ew in
    let (b, eb) = natural p.w (omega (arith, ints, least)) in
    let wb : w ≡ b = rw eb at es in
    let twice : d ≡ 2 * w = omega (arith, ints, ed, eb, wb) in
    let half : 2 * (n + u) / (2 * w) ≡ (n + u) / w = mul-div-mul_left {m = 2} (n + u) w (omega arith) in
    nearness_by_w side top near p a n w u q hn le h least fs fw ea en ew eu (eq ∙ ap (λ (x : ℕ). 2 * (n + u) / x) twice ∙ half)

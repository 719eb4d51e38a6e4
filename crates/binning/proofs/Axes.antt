-- Bins along one axis: which tile stands in which bin.
use Rattle.std.proofs.Common.{◌≡◌, inl, inr, ℕ, suc, ◌+◌, ◌*◌, ◌/◌, ◌^◌, ◌<◌, ◌≤◌, min, max, true, ◌&&◌, nat_lt, nat_eq, arith, ap, ◌∙◌}
use Rattle.std.specs.Int.{div_ceil}
use Rattle.std.specs.Cmp.{both_ways}
use Rattle.std.proofs.lemmas.Bool.{cases_lt, lt-ltb}
use Rattle.std.proofs.lemmas.Bool.Decides.{nat_tests}
use Rattle.std.proofs.lemmas.Grind.{div_ceil_times}
use Rattle.std.proofs.lemmas.Nat.{le-div, div_below}
use Rattle.std.proofs.Math.Nat.{div-mul-le_self, mul-le-mul_left, mul-le-mul_right, div-add-mod, mod-lt}
use Rattle.cull_base.specs.Span.{is_between}
use Rattle.binning.specs.Axis.{IsCutAxis, IsStepOf, ReachesAlong, bin_along, first_along, has_tile_along}

-- a quotient rounded up is the least number that is enough
ceil_enough : (x d n : ℕ) → 0 < d → div_ceil x d ≤ n → x ≤ n * d
ceil_enough x d n some le = let t = div_ceil_times x d some in let m : div_ceil x d * d ≤ n * d = mul-le-mul_right d le in omega (arith, t.0, m)

ceil_least : (x d n : ℕ) → 0 < d → x ≤ n * d → div_ceil x d ≤ n
ceil_least x d n some le = elim (cases_lt n (div_ceil x d)) [
  | inl lt ↦ let t = div_ceil_times x d some in let m : suc n * d ≤ div_ceil x d * d = mul-le-mul_right d lt in absurd (omega (arith, t.1, m, le))
  | inr done ↦ done
]

-- a tile stands in a bin or a later one exactly where it isn't before the bin's first tile
pub from_first : (bins tiles b n : ℕ) → 0 < bins → b ≤ bin_along bins tiles n → first_along bins tiles b ≤ n
from_first bins tiles b n some le =
    let m : b * tiles ≤ bin_along bins tiles n * tiles = mul-le-mul_right tiles le in
    let d = div-mul-le_self (n * bins) tiles in
    ceil_least (b * tiles) bins n some (omega (arith, m, d))

pub to_first : (bins tiles b n : ℕ) → 0 < bins → 0 < tiles → first_along bins tiles b ≤ n → b ≤ bin_along bins tiles n
to_first bins tiles b n some any le = le-div b (n * bins) tiles any (ceil_enough (b * tiles) bins n some le)

pub before_first : (bins tiles b n : ℕ) → 0 < bins → 0 < tiles → bin_along bins tiles n < b → n < first_along bins tiles b
before_first bins tiles b n some any lt = elim (cases_lt n (first_along bins tiles b)) [
  | inl done ↦ done
  | inr le ↦ let m = to_first bins tiles b n some any le in absurd (omega (arith, m, lt))
]

pub to_before : (bins tiles b n : ℕ) → 0 < bins → n < first_along bins tiles b → bin_along bins tiles n < b
to_before bins tiles b n some lt = elim (cases_lt (bin_along bins tiles n) b) [
  | inl done ↦ done
  | inr le ↦ let m = from_first bins tiles b n some le in absurd (omega (arith, m, lt))
]

-- the tiles of a bin
pub between_firsts : (bins tiles b n : ℕ) → 0 < bins → 0 < tiles → is_between (first_along bins tiles b) (first_along bins tiles (b + 1)) n ≡ nat_eq (bin_along bins tiles n) b
between_firsts bins tiles b n some any = by (first_along bins tiles b) (first_along bins tiles (b + 1)) (bin_along bins tiles n)
    (λ h. from_first bins tiles b n some h) (λ h. to_first bins tiles b n some any h) (λ h. before_first bins tiles (b + 1) n some any h) (λ h. to_before bins tiles (b + 1) n some h)
  where
    by : (f e k : ℕ) → (b ≤ k → f ≤ n) → (f ≤ n → b ≤ k) → (k < b + 1 → n < e) → (n < e → k < b + 1) → is_between f e n ≡ nat_eq k b
    by f e k p q r s = both_ways _ _ (λ h. grind (arith, nat_tests, q, s)) (λ h. grind (arith, nat_tests, p, r))

pub bin_below : (bins tiles n : ℕ) → 0 < tiles → n < tiles → 0 < bins → bin_along bins tiles n < bins
bin_below bins tiles n any lt some =
    let m : suc n * bins ≤ tiles * bins = mul-le-mul_right bins lt in
    div_below (n * bins) tiles bins any (omega (arith, m, some))

pub first_below : (bins tiles b : ℕ) → 0 < bins → b ≤ bins → first_along bins tiles b ≤ tiles
first_below bins tiles b some le = let m : b * tiles ≤ bins * tiles = mul-le-mul_right tiles le in ceil_least (b * tiles) bins tiles some (omega (arith, m))

pub firsts_rise : (bins tiles b : ℕ) → 0 < bins → first_along bins tiles b ≤ first_along bins tiles (b + 1)
firsts_rise bins tiles b some =
    let h : first_along bins tiles (b + 1) ≤ first_along bins tiles (b + 1) = omega arith in
    let m = ceil_enough ((b + 1) * tiles) bins (first_along bins tiles (b + 1)) some h in
    ceil_least (b * tiles) bins (first_along bins tiles (b + 1)) some (omega (arith, m))

-- where there are at least as many tiles as bins each bin has one
pub each_has_tile : (bins tiles b : ℕ) → 0 < bins → bins ≤ tiles → has_tile_along bins tiles b ≡ true
each_has_tile bins tiles b some le = lt-ltb _ _ (elim (cases_lt (first_along bins tiles b) (first_along bins tiles (b + 1))) [
  | inl done ↦ done
  | inr none ↦
      let m = ceil_enough ((b + 1) * tiles) bins (first_along bins tiles b) some none in
      let t = div_ceil_times (b * tiles) bins some in
      absurd (omega (arith, m, t.1, le))
])

-- a tile's bin by a multiplication
pub by_step : (bins tiles step n : ℕ) → IsStepOf bins tiles step → n < tiles → n * step / 2 ^ 20 ≡ bin_along bins tiles n
by_step bins tiles step n s lt =
    let any : 0 < tiles = omega (arith, s.sizes.some_tiles) in
    let wide : n * bins ≤ 255 * 8 = mul-le-mul_both n bins 255 8 (omega (arith, lt, s.sizes.few_tiles)) s.sizes.few_bins in
    let q : ℕ = bin_along bins tiles n in
    let low = div-mul-le_self (n * bins) tiles in
    let high = below_next (n * bins) tiles any in
    let t = div_ceil_times (2 ^ 20) tiles any in
    ap (λ k. k / 2 ^ 20) (ap (λ k. n * k) s.is_step ∙ product n bins (div_ceil (2 ^ 20) tiles))
    ∙ whole (n * bins) (div_ceil (2 ^ 20) tiles) q tiles (omega (arith, wide)) (omega (arith, t.0)) (omega (arith, t.1, s.sizes.few_tiles)) low high
  where
    product : (a b c : ℕ) → a * (b * c) ≡ a * b * c
    product a b c = omega arith

    mul-le-mul_both : (a b m n : ℕ) → a ≤ m → b ≤ n → a * b ≤ m * n
    mul-le-mul_both a b m n p q = let x : a * b ≤ m * b = mul-le-mul_right b p in let y : m * b ≤ m * n = mul-le-mul_left m q in omega (arith, x, y)

    below_next : (x d : ℕ) → 0 < d → x < (x / d + 1) * d
    below_next x d some = let e = div-add-mod x d in let lt = mod-lt x some in omega (arith, e, lt)

    whole : (x m q d : ℕ) → x ≤ 2040 → 2 ^ 20 ≤ m * d → m * d ≤ 2 ^ 20 + 255 → q * d ≤ x → x < (q + 1) * d → x * m / 2 ^ 20 ≡ q
    whole x m q d few up down low high =
        let a : q * 2 ^ 20 ≤ q * (m * d) = mul-le-mul_left q up in
        let b : q * d * m ≤ x * m = mul-le-mul_right m low in
        let lower : q * 2 ^ 20 ≤ x * m = omega (arith, a, b) in
        let upper : x * m < (q + 1) * 2 ^ 20 = elim (cases_lt (x * m) ((q + 1) * 2 ^ 20)) [
          | inl done ↦ done
          | inr past ↦
              let u : d * ((q + 1) * 2 ^ 20) ≤ d * (x * m) = mul-le-mul_left d past in
              let v : x * (m * d) ≤ x * (2 ^ 20 + 255) = mul-le-mul_left x down in
              absurd (omega (arith, u, v, high, few))
        ] in
        omega (arith, lower, upper)

pub bins_rise : (bins tiles m n : ℕ) → 0 < bins → 0 < tiles → m ≤ n → bin_along bins tiles m ≤ bin_along bins tiles n
bins_rise bins tiles m n some any le =
    let h : bin_along bins tiles m ≤ bin_along bins tiles m = omega arith in
    let f = from_first bins tiles (bin_along bins tiles m) m some h in
    to_first bins tiles (bin_along bins tiles m) n some any (omega (arith, f, le))

-- the bin of a tile has one
pub first_has_tile : (bins tiles n : ℕ) → 0 < bins → 0 < tiles → has_tile_along bins tiles (bin_along bins tiles n) ≡ true
first_has_tile bins tiles n some any =
    let from = from_first bins tiles (bin_along bins tiles n) n some (omega arith) in
    let to = before_first bins tiles (bin_along bins tiles n + 1) n some any (omega arith) in
    lt-ltb _ _ (omega (arith, from, to))

-- the bins from that of a first tile to that of the last
pub reached_is : (bins tiles first last : ℕ) → IsCutAxis bins tiles → first ≤ last → ReachesAlong bins tiles first (last + 1) (bin_along bins tiles first) (bin_along bins tiles last + 1)
reached_is bins tiles first last sizes le b below =
    let some : 0 < bins = omega (arith, sizes.some_bins) in
    let any : 0 < tiles = omega (arith, sizes.some_tiles) in
    by (bin_along bins tiles first) (bin_along bins tiles last) (first_along bins tiles b) (first_along bins tiles (b + 1))
    (λ h. before_first bins tiles (b + 1) first some any (omega (arith, h))) (λ h. let m = to_before bins tiles (b + 1) first some h in omega (arith, m))
    (λ h. from_first bins tiles b last some h) (λ h. to_first bins tiles b last some any h)
  where
    by : (low high f e : ℕ) → (low ≤ b → first < e) → (first < e → low ≤ b) → (b ≤ high → f ≤ last) → (f ≤ last → b ≤ high) → (is_between low (high + 1) b && nat_lt f e) ≡ nat_lt (max first f) (min (last + 1) e)
    by low high f e p q r s = both_ways _ _ (λ h. grind (arith, nat_tests, p, r)) (λ h. grind (arith, nat_tests, q, s))

-- no tile, no bin
pub none_reached : (bins tiles : ℕ) → ReachesAlong bins tiles 0 0 0 0
none_reached bins tiles b below = by (first_along bins tiles b) (first_along bins tiles (b + 1))
  where
    by : (f e : ℕ) → (is_between 0 0 b && nat_lt f e) ≡ nat_lt (max 0 f) (min 0 e)
    by f e = both_ways _ _ (λ h. grind (arith, nat_tests)) (λ h. grind (arith, nat_tests))

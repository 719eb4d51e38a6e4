use lib.Dec.{T}
use lib.IntN.{nat_abs}
use lib.Signed.{non_neg}
use Rattle.std.proofs.Common.{◌≡◌, ℕ, ℤ, pos, negsuc, ◌<◌, ◌^◌, ◌+ℤ◌, ◌-ℤ◌, ◌*ℤ◌, ◌≤ℤ◌, ◌<ℤ◌, ◌∙◌, ap, sym, refl, arith, rules, Fits, FitsSigned, w64}
use Rattle.std.specs.Int.{w128}
use Rattle.std.proofs.lemmas.Int.{ints, to_z-of_z}
use Rattle.cull_base.specs.Bounds.{Bounded}
use Rattle.cull_base.specs.Depth.{floor_of}
use Rattle.depth_plane.proofs.Floors.{floor_of-le, floor_of-lt}
use Rattle.depth_plane.proofs.quotient.remainder.Goals as goal

-- what is computed: the product p, and a rest that isn't negative and is below the divisor
record Steps (n p : ℤ) : Type 0 where
  pub product_fits : FitsSigned w128 p
  pub rest_fits : FitsSigned w128 (n -ℤ p)
  pub least : pos 0 ≤ℤ (n -ℤ p)
  pub most : (n -ℤ p) <ℤ pos (2 ^ 64)

steps : (n w a : ℤ) (d : ℕ) → Bounded (2 ^ 88) n → 0 < d → d < 2 ^ 64 → w ≡ floor_of n (pos d) → a ≡ pos d → Steps n (w *ℤ a)
steps n w a d k h fits ew ea = rw (ew, ea) (from (floor_of n (pos d) *ℤ pos d) (floor_of-le n (pos d) (omega (arith, ints, h))) (floor_of-lt n (pos d) (omega (arith, ints, h))))
  where
    from : (p : ℤ) → p ≤ℤ n → n <ℤ (p +ℤ pos d) → Steps n p
    from p l g = record {
      product_fits = omega (arith, ints, k, fits, l, g);
      rest_fits = omega (arith, ints, k, fits, l, g);
      least = omega (arith, ints, l);
      most = omega (arith, ints, fits, g);
    }

split : (n w a r : ℤ) (d : ℕ) → a ≡ pos d → r ≡ n -ℤ (w *ℤ a) → n ≡ (w *ℤ pos d) +ℤ r
split n w a r d e f = let g : r ≡ n -ℤ (w *ℤ pos d) = rw (← e) f in omega (arith, ints, g)

-- a whole number that isn't negative, as a natural one
as_natural : (x : ℤ) → pos 0 ≤ℤ x → x <ℤ pos (2 ^ 64) → T (non_neg x) × Fits w64 (nat_abs x)
as_natural (pos k) h l = (tt, omega (arith, ints, l))
as_natural (negsuc k) h l = absurd (omega (arith, ints, h))

natural_is : (x : ℤ) → pos 0 ≤ℤ x → pos (nat_abs x) ≡ x
natural_is (pos k) h = refl
natural_is (negsuc k) h = absurd (omega (arith, ints, h))

pub overflow_cast-result : goal.overflow_cast-result
overflow_cast-result c =
    let n = c.args.numerator in let w = c.args.whole in
    let fn : FitsSigned w128 n = c.ranges.numerator in let fw : FitsSigned w128 w = c.ranges.whole in
    let fa : FitsSigned w128 c.from.result = search rules in
    let s = steps n w c.from.result c.number.result c.requires.numerator c.number.ensures.positive c.number.type_inv (c.requires.whole ∙ ap (λ d. floor_of n (pos d)) (sym c.number.ensures.value)) c.from.ensures in
    let fp = s.product_fits in let fr = s.rest_fits in
    simp to_z-of_z (as_natural _ s.least s.most)

pub returns : goal.returns
returns c =
    let n = c.args.numerator in let w = c.args.whole in
    let fn : FitsSigned w128 n = c.ranges.numerator in let fw : FitsSigned w128 w = c.ranges.whole in
    let fa : FitsSigned w128 c.from.result = search rules in
    let s = steps n w c.from.result c.number.result c.requires.numerator c.number.ensures.positive c.number.type_inv (c.requires.whole ∙ ap (λ d. floor_of n (pos d)) (sym c.number.ensures.value)) c.from.ensures in
    let fp = s.product_fits in let fr = s.rest_fits in
    simp to_z-of_z (split n w c.from.result _ c.args.area.now (c.from.ensures ∙ ap pos c.number.ensures.value) (natural_is _ s.least))

-- Rows of a camera in lanes of signed numbers.
use Rattle.std.proofs.Common.{◌≡◌, ℕ, ℤ, pos, negsuc, ◌+◌, ◌*◌, ◌<◌, ◌^◌, ◌+ℤ◌, ◌*ℤ◌, ◌≤ℤ◌, ◌<ℤ◌, List, map, length, get_or, replicate, refl, sym, ap, ap₂, ◌∙◌, subst, arith, w32, w64, FitsSigned, to_z, of_z}
use Rattle.std.specs.Int.{int_div_euclid}
use Rattle.std.specs.Int.RustNames.{unsigned_abs}
use Rattle.std.specs.Simd.Lanes.{zip2, Each2}
use Rattle.std.proofs.lemmas.Int.{ints, to_z-of_z}
use Rattle.std.proofs.lemmas.List.{get_or-map, length-map}
use Rattle.std.proofs.lemmas.Simd.{get_or-replicate}
use mir.Syntax.{Width}
use Rattle.cull_base.specs.Bounds.{Bounded}
use Rattle.cull_base.proofs.Bounds.{bounded-mul}
use Rattle.lane_numbers.proofs.Floors.{floor-le, floor-lt, floor_is}
use Rattle.point_lanes.specs.Rows.{coordinate_by}
use Rattle.point_lanes.proofs.Lanes.{at_both, long_both, pairs}

-- ---- operations on lanes of signed numbers

abbrev pub sum_in : Width → ℕ → ℕ → ℕ
sum_in w a b = of_z w (to_z w a +ℤ to_z w b)

abbrev pub product_in : Width → ℕ → ℕ → ℕ
product_in w a b = of_z w (to_z w a *ℤ to_z w b)

abbrev pub widen : ℕ → ℕ
widen a = of_z w64 (to_z w32 a)

sum_is : (w : Width) (x y : ℤ) → FitsSigned w x → FitsSigned w y → sum_in w (of_z w x) (of_z w y) ≡ of_z w (x +ℤ y)
sum_is w x y fx fy = simp to_z-of_z

sum_fits : (w : Width) (x y : ℤ) → FitsSigned w x → FitsSigned w y → FitsSigned w (x +ℤ y) → FitsSigned w (to_z w (of_z w x) +ℤ to_z w (of_z w y))
sum_fits w x y fx fy f = simp to_z-of_z f

product_is : (w : Width) (x y : ℤ) → FitsSigned w x → FitsSigned w y → product_in w (of_z w x) (of_z w y) ≡ of_z w (x *ℤ y)
product_is w x y fx fy = simp to_z-of_z

product_fits : (w : Width) (x y : ℤ) → FitsSigned w x → FitsSigned w y → FitsSigned w (x *ℤ y) → FitsSigned w (to_z w (of_z w x) *ℤ to_z w (of_z w y))
product_fits w x y fx fy f = simp to_z-of_z f

widen_is : (z : ℤ) → FitsSigned w32 z → widen (of_z w32 z) ≡ of_z w64 z
widen_is z f = simp to_z-of_z

-- lanes that hold numbers
pub record AreHeld (w : Width) (ns : List ℕ) (v : ℕ → ℤ) : Type 0 where
  pub long : length ns ≡ 8
  pub each : (j : ℕ) → j < 8 → get_or ns j 0 ≡ of_z w (v j)
  pub fits : (j : ℕ) → j < 8 → FitsSigned w (v j)

pub held : (w : Width) (zs : List ℤ) → length zs ≡ 8 → ((j : ℕ) → j < 8 → FitsSigned w (get_or zs j (pos 0))) → AreHeld w (map (of_z w) zs) (λ j. get_or zs j (pos 0))
held w zs long fits = record {
  long = length-map zs (of_z w) ∙ long;
  each = λ j lt. get_or-map (of_z w) zs j (pos 0) 0 (omega (arith, long, lt));
  fits = fits;
}

pub held_same : (w : Width) (z : ℤ) → FitsSigned w z → AreHeld w (replicate 8 (of_z w z)) (λ j. z)
held_same w z fits = record { long = refl; each = λ j lt. get_or-replicate 8 j (of_z w z) 0 lt; fits = λ j lt. fits }

pub held_wider : (zs : List ℤ) → length zs ≡ 8 → ((j : ℕ) → j < 8 → Bounded (2 ^ 24) (get_or zs j (pos 0))) → AreHeld w64 (map widen (map (of_z w32) zs)) (λ j. get_or zs j (pos 0))
held_wider zs long near =
    let bits = length-map zs (of_z w32) ∙ long in record {
      long = length-map (map (of_z w32) zs) widen ∙ bits;
      each = λ j lt.
          get_or-map widen (map (of_z w32) zs) j 0 0 (omega (arith, bits, lt))
          ∙ ap widen (get_or-map (of_z w32) zs j (pos 0) 0 (omega (arith, long, lt)))
          ∙ widen_is (get_or zs j (pos 0)) (short (get_or zs j (pos 0)) (near j lt));
      fits = λ j lt. wide (get_or zs j (pos 0)) (near j lt);
    }
  where
    short : (z : ℤ) → Bounded (2 ^ 24) z → FitsSigned w32 z
    short z h = omega (arith, ints, h)

    wide : (z : ℤ) → Bounded (2 ^ 24) z → FitsSigned w64 z
    wide z h = omega (arith, ints, h)

pub held_sum : (w : Width) (ms ns : List ℕ) (u v : ℕ → ℤ) → AreHeld w ms u → AreHeld w ns v → ((j : ℕ) → j < 8 → FitsSigned w (u j +ℤ v j)) → AreHeld w (zip2 (sum_in w) ms ns) (λ j. u j +ℤ v j)
held_sum w ms ns u v h k fits = record {
  long = long_both (sum_in w) ms ns h.long k.long;
  each = λ j lt. at_both (sum_in w) ms ns h.long k.long j lt ∙ ap₂ (sum_in w) (h.each j lt) (k.each j lt) ∙ sum_is w (u j) (v j) (h.fits j lt) (k.fits j lt);
  fits = fits;
}

pub held_product : (w : Width) (ms ns : List ℕ) (u v : ℕ → ℤ) → AreHeld w ms u → AreHeld w ns v → ((j : ℕ) → j < 8 → FitsSigned w (u j *ℤ v j)) → AreHeld w (zip2 (product_in w) ms ns) (λ j. u j *ℤ v j)
held_product w ms ns u v h k fits = record {
  long = long_both (product_in w) ms ns h.long k.long;
  each = λ j lt. at_both (product_in w) ms ns h.long k.long j lt ∙ ap₂ (product_in w) (h.each j lt) (k.each j lt) ∙ product_is w (u j) (v j) (h.fits j lt) (k.fits j lt);
  fits = fits;
}

pub sums_fit : (w : Width) (ms ns : List ℕ) (u v : ℕ → ℤ) → AreHeld w ms u → AreHeld w ns v → ((j : ℕ) → j < 8 → FitsSigned w (u j +ℤ v j)) → Each2 (λ a b. FitsSigned w (to_z w a +ℤ to_z w b)) ms ns
sums_fit w ms ns u v h k fits =
    pairs (λ a b. FitsSigned w (to_z w a +ℤ to_z w b)) ms ns h.long
    (λ j lt.
    subst (λ (a : ℕ). FitsSigned w (to_z w a +ℤ to_z w (get_or ns j 0))) (sym (h.each j lt))
    (subst (λ (b : ℕ). FitsSigned w (to_z w (of_z w (u j)) +ℤ to_z w b)) (sym (k.each j lt)) (sum_fits w (u j) (v j) (h.fits j lt) (k.fits j lt) (fits j lt))))

pub products_fit : (w : Width) (ms ns : List ℕ) (u v : ℕ → ℤ) → AreHeld w ms u → AreHeld w ns v → ((j : ℕ) → j < 8 → FitsSigned w (u j *ℤ v j)) → Each2 (λ a b. FitsSigned w (to_z w a *ℤ to_z w b)) ms ns
products_fit w ms ns u v h k fits =
    pairs (λ a b. FitsSigned w (to_z w a *ℤ to_z w b)) ms ns h.long
    (λ j lt.
    subst (λ (a : ℕ). FitsSigned w (to_z w a *ℤ to_z w (get_or ns j 0))) (sym (h.each j lt))
    (subst (λ (b : ℕ). FitsSigned w (to_z w (of_z w (u j)) *ℤ to_z w b)) (sym (k.each j lt)) (product_fits w (u j) (v j) (h.fits j lt) (k.fits j lt) (fits j lt))))

-- what they hold, read
pub read : (w : Width) (ns : List ℕ) (v : ℕ → ℤ) → AreHeld w ns v → (j : ℕ) → j < 8 → get_or (map (to_z w) ns) j (pos 0) ≡ v j
read w ns v h j lt = get_or-map (to_z w) ns j 0 (pos 0) (inside h.long) ∙ ap (λ (n : ℕ). to_z w n) (h.each j lt) ∙ to_z-of_z w (v j) (h.fits j lt)
  where
    inside : length ns ≡ 8 → j < length ns
    inside e = omega (arith, e, lt)

-- ---- the products of a factor

pub factor_fits : (f z : ℤ) → Bounded (2 ^ 22) f → Bounded (2 ^ 24) z → FitsSigned w64 (f *ℤ z)
factor_fits f z hf hz = let n = bounded-mul (2 ^ 22) (2 ^ 24) f z hf hz in omega (arith, ints, n)

pub factor_wide : (f : ℤ) → Bounded (2 ^ 22) f → FitsSigned w64 f
factor_wide f h = omega (arith, ints, h)

-- ---- sums in parts of 2^-32

pub two_fit : (x y : ℤ) → Bounded (2 ^ 46) x → Bounded (2 ^ 46) y → FitsSigned w64 (x +ℤ y)
two_fit x y h k = omega (arith, ints, h, k)

pub sum_wide : (x : ℤ) → Bounded (2 ^ 46) x → FitsSigned w64 x
sum_wide x h = omega (arith, ints, h)

pub parts_fit : (x : ℤ) → Bounded (2 ^ 46) x → FitsSigned w64 (x *ℤ pos 65536)
parts_fit x h = omega (arith, ints, h)

-- ---- a coordinate

halves : (s : ℤ) → int_div_euclid (s *ℤ pos 65536) (pos 4294967296) ≡ int_div_euclid s (pos 65536)
halves s = by (int_div_euclid s (pos 65536)) (floor-le s 65536 (omega arith)) (floor-lt s 65536 (omega arith))
  where
    by : (q : ℤ) → (q *ℤ pos 65536) ≤ℤ s → s <ℤ ((q *ℤ pos 65536) +ℤ pos 65536) → int_div_euclid (s *ℤ pos 65536) (pos 4294967296) ≡ q
    by q l m = floor_is (s *ℤ pos 65536) q 4294967296 (omega arith) (omega (arith, ints, l)) (omega (arith, ints, m))

pub coordinate_is : (a b c o x y z p q r s h v : ℤ) → p ≡ a *ℤ x → q ≡ b *ℤ y → r ≡ c *ℤ z → s ≡ ((p +ℤ q) +ℤ r) *ℤ pos 65536 → h ≡ int_div_euclid s (pos 4294967296) → v ≡ h +ℤ o → v ≡ coordinate_by a b c o x y z
coordinate_is a b c o x y z p q r s h v ep eq er es eh ev =
    let sum : (p +ℤ q) +ℤ r ≡ ((a *ℤ x) +ℤ (b *ℤ y)) +ℤ (c *ℤ z) = rw (ep, eq, er) refl in
    ev ∙ ap (λ (t : ℤ). t +ℤ o) (eh ∙ ap (λ (t : ℤ). int_div_euclid t (pos 4294967296)) (es ∙ ap (λ (t : ℤ). t *ℤ pos 65536) sum) ∙ halves (((a *ℤ x) +ℤ (b *ℤ y)) +ℤ (c *ℤ z)))

size_bound : (z : ℤ) → Bounded (unsigned_abs z) z
size_bound (pos n) = (omega (arith, ints), omega (arith, ints))
size_bound (negsuc n) = (omega (arith, ints), omega (arith, ints))

-- how far products lie from 0 where the sizes of the factors are small together
pub record AreSmall (a b c x y z : ℤ) : Type 0 where
  pub first : Bounded (2 ^ 46) (a *ℤ x)
  pub second : Bounded (2 ^ 46) (b *ℤ y)
  pub third : Bounded (2 ^ 46) (c *ℤ z)
  pub all : Bounded (2 ^ 46) (((a *ℤ x) +ℤ (b *ℤ y)) +ℤ (c *ℤ z))

pub are_small : (a b c x y z : ℤ) → unsigned_abs a + unsigned_abs b + unsigned_abs c < 2 ^ 22 → Bounded (2 ^ 24) x → Bounded (2 ^ 24) y → Bounded (2 ^ 24) z → AreSmall a b c x y z
are_small a b c x y z small hx hy hz =
    by (unsigned_abs a) (unsigned_abs b) (unsigned_abs c) small (bounded-mul (unsigned_abs a) (2 ^ 24) a x (size_bound a) hx) (bounded-mul (unsigned_abs b) (2 ^ 24) b y (size_bound b) hy) (bounded-mul (unsigned_abs c) (2 ^ 24) c z (size_bound c) hz)
  where
    by : (k l m : ℕ) → k + l + m < 2 ^ 22 → Bounded (k * 2 ^ 24) (a *ℤ x) → Bounded (l * 2 ^ 24) (b *ℤ y) → Bounded (m * 2 ^ 24) (c *ℤ z) → AreSmall a b c x y z
    by k l m small p q r = record {
      first = one (a *ℤ x) (omega (arith, small)) p;
      second = two (b *ℤ y) (omega (arith, small)) q;
      third = three (c *ℤ z) (omega (arith, small)) r;
      all = sum (a *ℤ x) (b *ℤ y) (c *ℤ z) p q r;
    }
      where
        one : (t : ℤ) → k < 2 ^ 22 → Bounded (k * 2 ^ 24) t → Bounded (2 ^ 46) t
        one t s h = (omega (arith, ints, s, h), omega (arith, ints, s, h))

        two : (t : ℤ) → l < 2 ^ 22 → Bounded (l * 2 ^ 24) t → Bounded (2 ^ 46) t
        two t s h = (omega (arith, ints, s, h), omega (arith, ints, s, h))

        three : (t : ℤ) → m < 2 ^ 22 → Bounded (m * 2 ^ 24) t → Bounded (2 ^ 46) t
        three t s h = (omega (arith, ints, s, h), omega (arith, ints, s, h))

        sum : (p q r : ℤ) → Bounded (k * 2 ^ 24) p → Bounded (l * 2 ^ 24) q → Bounded (m * 2 ^ 24) r → Bounded (2 ^ 46) ((p +ℤ q) +ℤ r)
        sum p q r hp hq hr = (omega (arith, ints, small, hp, hq, hr), omega (arith, ints, small, hp, hq, hr))

pub factor_small : (a : ℤ) (n : ℕ) → unsigned_abs a + n < 2 ^ 22 → Bounded (2 ^ 22) a
factor_small a n h = by (unsigned_abs a) h (size_bound a)
  where
    by : (k : ℕ) → k + n < 2 ^ 22 → Bounded k a → Bounded (2 ^ 22) a
    by k h b = (omega (arith, ints, h, b), omega (arith, ints, h, b))

pub floor_small : (s : ℤ) → Bounded (2 ^ 46) s → Bounded (2 ^ 30) (int_div_euclid s (pos 65536))
floor_small s h = by (int_div_euclid s (pos 65536)) (floor-le s 65536 (omega arith)) (floor-lt s 65536 (omega arith))
  where
    by : (q : ℤ) → (q *ℤ pos 65536) ≤ℤ s → s <ℤ ((q *ℤ pos 65536) +ℤ pos 65536) → Bounded (2 ^ 30) q
    by q l m = (omega (arith, ints, l, m, h), omega (arith, ints, l, m, h))

pub turned_first : (k l m : ℕ) → k + l + m < 2 ^ 22 → k + (l + m) < 2 ^ 22
turned_first k l m h = omega (arith, h)

pub turned_last : (k l m : ℕ) → k + l + m < 2 ^ 22 → (l + (k + m) < 2 ^ 22) × (m + (k + l) < 2 ^ 22)
turned_last k l m h = (omega (arith, h), omega (arith, h))

-- the upper halves, one by one
pub high_at : (ss hs : List ℤ) → length hs ≡ 8 → hs ≡ map (λ n. int_div_euclid n (pos 4294967296)) ss → (j : ℕ) → j < 8 → get_or hs j (pos 0) ≡ int_div_euclid (get_or ss j (pos 0)) (pos 4294967296)
high_at ss hs long are j lt =
    ap (λ (l : List ℤ). get_or l j (pos 0)) are
    ∙ get_or-map (λ n. int_div_euclid n (pos 4294967296)) ss j (pos 0) (pos 0) (inside (sym (length-map ss (λ n. int_div_euclid n (pos 4294967296))) ∙ sym (ap (λ (l : List ℤ). length l) are) ∙ long))
  where
    inside : length ss ≡ 8 → j < length ss
    inside e = omega (arith, e, lt)

pub high_small : (p q r s h : ℤ) → Bounded (2 ^ 46) ((p +ℤ q) +ℤ r) → s ≡ ((p +ℤ q) +ℤ r) *ℤ pos 65536 → h ≡ int_div_euclid s (pos 4294967296) → Bounded (2 ^ 30) h
high_small p q r s h near es eh =
    subst (λ (t : ℤ). Bounded (2 ^ 30) t) (sym (eh ∙ ap (λ (t : ℤ). int_div_euclid t (pos 4294967296)) es ∙ halves ((p +ℤ q) +ℤ r))) (floor_small ((p +ℤ q) +ℤ r) near)

-- lanes that are handed on
pub passed_at : (zs : List ℤ) → length zs ≡ 8 → (j : ℕ) → j < 8 → Bounded (2 ^ 30) (get_or zs j (pos 0)) → get_or (map (to_z w32) (map (of_z w32) zs)) j (pos 0) ≡ get_or zs j (pos 0)
passed_at zs long j lt near =
    get_or-map (to_z w32) (map (of_z w32) zs) j 0 (pos 0) (inside (length-map zs (of_z w32) ∙ long))
    ∙ ap (λ (n : ℕ). to_z w32 n) (get_or-map (of_z w32) zs j (pos 0) 0 (omega (arith, long, lt)))
    ∙ to_z-of_z w32 (get_or zs j (pos 0)) (short (get_or zs j (pos 0)) near)
  where
    inside : length (map (of_z w32) zs) ≡ 8 → j < length (map (of_z w32) zs)
    inside e = omega (arith, e, lt)

    short : (z : ℤ) → Bounded (2 ^ 30) z → FitsSigned w32 z
    short z h = omega (arith, ints, h)

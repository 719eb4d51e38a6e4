-- The floor of so many units over a power of two, plus one: what they hold is at most a step away.
use Rattle.std.proofs.Common.{◌≡◌, ◌∙◌, ℕ, ℤ, pos, negsuc, suc, zero, neg_ℤ, nat_abs, ◌<◌, ◌≤◌, ◌+◌, ◌*◌, ◌+ℤ◌, ◌-ℤ◌, ◌*ℤ◌, ◌≤ℤ◌, ◌<ℤ◌, ◌^◌, FitsSigned, w64, to_z, of_z, arith, refl, ap, subst}
use Rattle.std.specs.Int.{int_div_euclid}
use lib.Signed.{shr_z}
use Rattle.std.proofs.lemmas.Int.{ints, to_z-of_z, by_lt_z}
use Rattle.std.proofs.Math.Nat.{mul-le-mul_left, pow-le-pow_right}
use Rattle.std.proofs.lemmas.Nat.{pow_pos, pow-add}
use Rattle.cull_base.specs.Bounds.{Bounded}
use Rattle.cull_base.proofs.Ring.{diff-mul, diff-add, diff-same, over3}
use Rattle.exact_clip.specs.Held.{IsHeld}
use Rattle.clip_lines.specs.Lines.{IsWithin}
use Rattle.clip_lines.specs.Parts.{IsFloor}

-- ---- a shift down is a quotient, rounded down

shift_is : (v : ℤ) (d : ℕ) → shr_z v d ≡ int_div_euclid v (pos d)
shift_is (pos n) d = refl
shift_is (negsuc n) d = refl

floor-le : (n : ℤ) (p : ℕ) → 0 < p → (int_div_euclid n (pos p) *ℤ pos p) ≤ℤ n
floor-le (pos a) p h = omega (arith, ints)
floor-le (negsuc a) p h = omega (arith, ints)

floor-lt : (n : ℤ) (p : ℕ) → 0 < p → n <ℤ ((int_div_euclid n (pos p) *ℤ pos p) +ℤ pos p)
floor-lt (pos a) p h = omega (arith, ints)
floor-lt (negsuc a) p h = omega (arith, ints)

quotient-fits : (v : ℤ) (d : ℕ) → 0 < d → FitsSigned w64 v → FitsSigned w64 (int_div_euclid v (pos d))
quotient-fits (pos n) d h f = omega (arith, ints, h, f)
quotient-fits (negsuc n) d h f = omega (arith, ints, h, f)

pub floored : (v : ℤ) (k : ℕ) → FitsSigned w64 v → IsFloor v (2 ^ k) (to_z w64 (of_z w64 (shr_z v (2 ^ k))))
floored v k f =
    let d = pow_pos k in
    let e = to_z-of_z w64 (int_div_euclid v (pos (2 ^ k))) (quotient-fits v (2 ^ k) d f) in
    let is = shift_is v (2 ^ k) in
    rw (is, e) (record { low = floor-le v (2 ^ k) d; high = floor-lt v (2 ^ k) d })

-- ---- products with what isn't negative

le-times : (a m : ℤ) (u : ℕ) → a ≤ℤ m → (a *ℤ pos u) ≤ℤ (m *ℤ pos u)
le-times (pos a) (pos m) u h = let l : a ≤ m = omega (arith, ints, h) in omega (arith, ints, mul-le-mul_left u l)
le-times (pos a) (negsuc m) u h = absurd (omega (arith, ints, h))
le-times (negsuc a) (pos m) u h = omega (arith, ints)
le-times (negsuc a) (negsuc m) u h = let l : suc m ≤ suc a = omega (arith, ints, h) in omega (arith, ints, mul-le-mul_left u l)

add-mul : (a b u : ℤ) → (a +ℤ b) *ℤ u ≡ (a *ℤ u) +ℤ (b *ℤ u)
add-mul = over3 (λ a b u. (a +ℤ b) *ℤ u ≡ (a *ℤ u) +ℤ (b *ℤ u)) (λ a a' b b' u u'. simp (diff-add, diff-mul) (diff-same _ _ _ _ (omega arith)))

mul-assoc : (q p u : ℤ) → (q *ℤ p) *ℤ u ≡ q *ℤ (u *ℤ p)
mul-assoc = over3 (λ q p u. (q *ℤ p) *ℤ u ≡ q *ℤ (u *ℤ p)) (λ q q' p p' u u'. simp diff-mul (diff-same _ _ _ _ (omega arith)))

one-more : (q : ℤ) (n : ℕ) → (q +ℤ pos 1) *ℤ pos n ≡ (q *ℤ pos n) +ℤ pos n
one-more q n = let e : 1 * n ≡ n = omega arith in add-mul q (pos 1) (pos n) ∙ ap (λ z. (q *ℤ pos n) +ℤ pos z) e

two-more : (b : ℤ) (p u : ℕ) → (b +ℤ pos (2 * p)) *ℤ pos u ≡ (b *ℤ pos u) +ℤ pos (2 * (u * p))
two-more b p u = let e : (2 * p) * u ≡ 2 * (u * p) = omega arith in add-mul b (pos (2 * p)) (pos u) ∙ ap (λ z. (b *ℤ pos u) +ℤ pos z) e

-- ---- the floor plus one

near : (v q : ℤ) (p unit : ℕ) (exact : ℤ) → 4 ≤ p → IsFloor v p q → IsHeld unit v exact → IsWithin (unit * p) 1 (q +ℤ pos 1) exact
near v q p unit exact h f held =
    let a = le-times (q *ℤ pos p) v unit f.low in
    let b = le-times (v +ℤ pos 4) ((q *ℤ pos p) +ℤ pos (2 * p)) unit (above v (q *ℤ pos p) p h f.high) in
    let e : (q *ℤ pos p) *ℤ pos unit ≡ q *ℤ pos (unit * p) = mul-assoc q (pos p) (pos unit) in
    let o = one-more q (unit * p) in
    let t = two-more (q *ℤ pos p) p unit in (
      lower exact ((q *ℤ pos p) *ℤ pos unit) (v *ℤ pos unit) (q *ℤ pos (unit * p)) ((q +ℤ pos 1) *ℤ pos (unit * p)) (unit * p) a held.low e o,
      upper exact ((v +ℤ pos 4) *ℤ pos unit) (((q *ℤ pos p) +ℤ pos (2 * p)) *ℤ pos unit) ((q *ℤ pos p) *ℤ pos unit) (q *ℤ pos (unit * p)) ((q +ℤ pos 1) *ℤ pos (unit * p)) (unit * p) b held.high t e o,
    )
  where
    above : (v a : ℤ) (p : ℕ) → 4 ≤ p → v <ℤ (a +ℤ pos p) → (v +ℤ pos 4) ≤ℤ (a +ℤ pos (2 * p))
    above v a p h l = omega (arith, ints, h, l)

    lower : (x a b c g : ℤ) (n : ℕ) → a ≤ℤ b → b ≤ℤ x → a ≡ c → g ≡ c +ℤ pos n → neg_ℤ (pos (1 * n)) ≤ℤ (x -ℤ g)
    lower x a b c g n h i e f = omega (arith, ints, h, i, e, f)

    upper : (x b d a c g : ℤ) (n : ℕ) → b ≤ℤ d → x <ℤ b → d ≡ a +ℤ pos (2 * n) → a ≡ c → g ≡ c +ℤ pos n → (x -ℤ g) ≤ℤ pos (1 * n)
    upper x b d a c g n h i t e f = omega (arith, ints, h, i, t, e, f)

sides : (v : ℤ) (n : ℕ) → nat_abs v < n → (neg_ℤ (pos n) <ℤ v) × (v <ℤ pos n)
sides (pos v) n h = (omega (arith, ints, h), omega (arith, ints, h))
sides (negsuc v) n h = (omega (arith, ints, h), omega (arith, ints, h))

bounded : (v q : ℤ) (p b : ℕ) → IsFloor v p q → nat_abs v < b * p → Bounded b (q +ℤ pos 1)
bounded v q p b f h =
    let s = sides v (b * p) h in
    let o = one-more q p in (
      by_lt_z (q +ℤ pos 1) (neg_ℤ (pos b))
          (λ l. let t = le-times (q +ℤ pos 1) (neg_ℤ (pos b)) p (below (q +ℤ pos 1) (neg_ℤ (pos b)) l) in let e = neg-times b p in absurd (too-low v (q *ℤ pos p) ((q +ℤ pos 1) *ℤ pos p) (neg_ℤ (pos b) *ℤ pos p) p (b * p) f.high o t e s.0))
          (λ l. l),
      by_lt_z q (pos b) (λ l. next q b l)
          (λ l. let t = le-times (pos b) q p l in absurd (too-high v (q *ℤ pos p) (b * p) f.low t s.1)),
    )
  where
    below : (a b : ℤ) → a <ℤ b → a ≤ℤ b
    below a b l = omega (arith, ints, l)

    next : (q : ℤ) (b : ℕ) → q <ℤ pos b → (q +ℤ pos 1) ≤ℤ pos b
    next q b l = omega (arith, ints, l)

    neg-times : (b p : ℕ) → neg_ℤ (pos b) *ℤ pos p ≡ neg_ℤ (pos (b * p))
    neg-times zero p = omega (arith, ints)
    neg-times (suc b) p = omega (arith, ints)

    too-low : (v a o t : ℤ) (p n : ℕ) → v <ℤ (a +ℤ pos p) → o ≡ a +ℤ pos p → o ≤ℤ t → t ≡ neg_ℤ (pos n) → neg_ℤ (pos n) <ℤ v → ⊥
    too-low v a o t p n h e l f k = omega (arith, ints, h, e, l, f, k)

    too-high : (v a : ℤ) (n : ℕ) → a ≤ℤ v → pos n ≤ℤ a → v <ℤ pos n → ⊥
    too-high v a n h l k = omega (arith, ints, h, l, k)

-- ---- by a power of two

pub steps-bounded : (v q : ℤ) (k : ℕ) → IsFloor v (2 ^ k) q → nat_abs v < 2 ^ (30 + k) → Bounded (2 ^ 30) (q +ℤ pos 1)
steps-bounded v q k f h = let e = pow-add 2 30 k in bounded v q (2 ^ k) (2 ^ 30) f (subst (λ n. nat_abs v < n) e h)

pub steps-near : (v q : ℤ) (k unit : ℕ) (exact : ℤ) → 2 ≤ k → IsFloor v (2 ^ k) q → IsHeld unit v exact → IsWithin (unit * 2 ^ k) 1 (q +ℤ pos 1) exact
steps-near v q k unit exact h f held = near v q (2 ^ k) unit exact (pow-le-pow_right {n = 2} (omega arith) {i = 2} {j = k} h) f held

-- ---- what is held is held by a unit

pub unit-proper : (unit : ℕ) (v exact : ℤ) → IsHeld unit v exact → 0 < unit
unit-proper (suc unit) v exact h = omega arith
unit-proper zero v exact h = absurd (none exact (v *ℤ pos 0) ((v +ℤ pos 4) *ℤ pos 0) (times-none v) (times-none (v +ℤ pos 4)) h.low h.high)
  where
    times-none : (v : ℤ) → v *ℤ pos 0 ≡ pos 0
    times-none (pos v) = omega (arith, ints)
    times-none (negsuc v) = omega (arith, ints)

    none : (x a b : ℤ) → a ≡ pos 0 → b ≡ pos 0 → a ≤ℤ x → x <ℤ b → ⊥
    none x a b ea eb h l = omega (arith, ints, ea, eb, h, l)

pub scale-proper : (unit shift : ℕ) (v exact : ℤ) → IsHeld unit v exact → 0 < unit * 2 ^ shift
scale-proper unit shift v exact h = positive unit (2 ^ shift) (unit-proper unit v exact h) (pow_pos shift)
  where
    positive : (a b : ℕ) → 0 < a → 0 < b → 0 < a * b
    positive (suc a) (suc b) h k = omega arith
    positive (suc a) zero h k = absurd (omega (arith, k))
    positive zero b h k = absurd (omega (arith, h))

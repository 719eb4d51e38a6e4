-- Floors and ceilings of quotients by a positive number.
use Rattle.std.proofs.Common.{◌≡◌, ℕ, ℤ, pos, negsuc, neg_ℤ, suc, zero, ◌+◌, ◌*◌, ◌/◌, ◌%◌, ◌<◌, ◌≤◌, ◌<ℤ◌, ◌≤ℤ◌, ◌+ℤ◌, ◌*ℤ◌, ◌⊎◌, inl, inr, min, FitsSigned, w32, arith, refl, sym, ap, ◌-◌, ◌∙◌}
use Rattle.std.proofs.lemmas.Int.{ints}
use Rattle.std.proofs.Math.Nat.{mul-le-mul_left, mul-add-div, div-mul-le_self, div-lt_iff_lt-mul, div-eq_of_lt-le, div-add-mod, mod-lt, zero-div, mod-eq_of_lt}
use Rattle.std.specs.Int.RustNames.{unsigned_abs}
use Rattle.cull_base.specs.Bounds.{Bounded}
use Rattle.cull_base.proofs.Bounds.{times-bounded}
use Rattle.cull_base.specs.Piece.{IsCoordinate}
use Rattle.cull_base.specs.Depth.{floor_of, ceiling_of}
use Rattle.snap_setup.specs.Snapping.{round_half}

-- a floor is at most m away from 0 where the numerator is not less than -m and less than m + 1 times the denominator
floor_near : (m b : ℕ) (z : ℤ) → 0 < b → neg_ℤ (pos (m * b)) ≤ℤ z → z <ℤ pos (m * b + b) → Bounded m (floor_of z (pos b))
floor_near m b (pos a) hb low high =
    let lt : a < suc m * b = omega (arith, ints, high) in
    let q : a / b < suc m = (div-lt_iff_lt-mul {k = b} {x = a} {y = suc m} hb).1 lt in
    (omega (arith, ints), omega (arith, ints, q))
floor_near m b (negsuc a) hb low high =
    let lt : a < m * b = omega (arith, ints, low) in
    let q : a / b < m = (div-lt_iff_lt-mul {k = b} {x = a} {y = m} hb).1 lt in
    (omega (arith, ints, q), omega (arith, ints))

-- rounding keeps whole bounds
pub round_half_near : (m : ℕ) (n w : ℤ) → pos 1 ≤ℤ w → neg_ℤ (pos m *ℤ w) ≤ℤ n → n ≤ℤ (pos m *ℤ w) → Bounded m (round_half n w)
round_half_near m n (pos b) h low high =
    floor_near m (2 * b) ((pos 2 *ℤ n) +ℤ pos b) (omega (arith, ints, h)) (omega (arith, ints, low)) (omega (arith, ints, high, h))
round_half_near m n (negsuc b) h low high = absurd (omega (arith, ints, h))

-- the ceiling of a quotient of naturals
quotient_up : (k b q r : ℕ) → 0 < b → b * q + r ≡ k → r < b → suc q ≡ suc k / b + min 1 (suc k % b)
quotient_up k b q r hb e lt = or_else (by_cases (suc r) b)
  where
    by_cases : (x y : ℕ) → (x < y) ⊎ (y ≤ x)
    by_cases x y = grind arith

    or_else : (suc r < b) ⊎ (b ≤ suc r) → suc q ≡ suc k / b + min 1 (suc k % b)
    or_else (inl h) =
        let d : suc k / b ≡ q = div-eq_of_lt-le b {m = suc k} (omega arith) (omega arith) in
        let m = div-add-mod (suc k) b in
        let p : b * (suc k / b) ≡ b * q = ap (λ t. b * t) d in
        omega (arith, d, m, p)
    or_else (inr h) =
        let d : suc k / b ≡ suc q = div-eq_of_lt-le b {m = suc k} (omega arith) (omega arith) in
        let m = div-add-mod (suc k) b in
        let p : b * (suc k / b) ≡ b * suc q = ap (λ t. b * t) d in
        omega (arith, d, m, p)

pub ceiling_is : (a b : ℕ) → 0 < b → unsigned_abs (ceiling_of (pos a) (pos b)) ≡ a / b + min 1 (a % b)
ceiling_is zero b h = let d = zero-div b in let m : 0 % b ≡ 0 = mod-eq_of_lt h in rw (d, m) refl
ceiling_is (suc k) b h = quotient_up k b (k / b) (k % b) h (div-add-mod k b) (mod-lt k h)

-- what the code computes of a coordinate
doubled_twice : (p : ℕ) (o : ℤ) → pos (16 * p) *ℤ o ≡ pos 2 *ℤ (pos (8 * p) *ℤ o)
doubled_twice p (pos b) = omega (arith, ints)
doubled_twice p (negsuc b) = omega (arith, ints)

rounded_is : (p : ℕ) (o w d s e q : ℤ) → d ≡ pos (16 * p) *ℤ o → s ≡ d +ℤ w → e ≡ pos 2 *ℤ w → q ≡ floor_of s e → q ≡ round_half (pos (8 * p) *ℤ o) w
rounded_is p o w d s e q ed es ee eq = let t = doubled_twice p o in rw (eq, es, ee, ed, t) refl

-- 8 * 2048 * 16385, which is below 2^29
pub rounded_near : (p : ℕ) (o w : ℤ) → p ≤ 2048 → pos 1 ≤ℤ w → neg_ℤ (pos 16385 *ℤ w) ≤ℤ o → o ≤ℤ (pos 16385 *ℤ w) → Bounded 268451840 (round_half (pos (8 * p) *ℤ o) w)
rounded_near p o (pos b) hp h low high =
    let near : Bounded (16385 * b) o = (omega (arith, ints, low), omega (arith, ints, high)) in
    let t = times-bounded (16385 * b) (8 * p) o near in
    let le : 8 * p ≤ 16384 = omega arith in
    let m = mul-le-mul_left (16385 * b) le in
    round_half_near 268451840 (pos (8 * p) *ℤ o) (pos b) h (omega (arith, ints, t, m)) (omega (arith, ints, t, m))
rounded_near p o (negsuc b) hp h low high = absurd (omega (arith, ints, h))

-- what the quotient is
pub record IsPlace (p : ℕ) (o w q : ℤ) : Type 0 where
  pub value : q ≡ round_half (pos (8 * p) *ℤ o) w
  pub within : IsCoordinate q
  pub fits : FitsSigned w32 q

pub is_place : (p : ℕ) (o w d s e q : ℤ) → d ≡ pos (16 * p) *ℤ o → s ≡ d +ℤ w → e ≡ pos 2 *ℤ w → q ≡ floor_of s e →
    p ≤ 2048 → pos 1 ≤ℤ w → neg_ℤ (pos 16385 *ℤ w) ≤ℤ o → o ≤ℤ (pos 16385 *ℤ w) → IsPlace p o w q
is_place p o w d s e q ed es ee eq hp hw low high =
    let v = rounded_is p o w d s e q ed es ee eq in
    let n = rounded_near p o w hp hw low high in
    record { value = v; within = rw v (omega (arith, ints, n), omega (arith, ints, n)); fits = rw v (omega (arith, ints, n)) }

-- a quotient in two steps: of the number without its lower eight bits, and of what that leaves
pub quotient_within : (n d : ℕ) → 0 < d → n / d ≤ n
quotient_within n d h =
    let whole : n / d * d ≤ n = div-mul-le_self n d in
    let one : n / d * 1 ≤ n / d * d = mul-le-mul_left (n / d) h in
    omega (arith, whole, one)

pub step_within : (n d u : ℕ) → u ≡ n / 256 / d → 256 * u * d ≤ n
step_within n d u e =
    let upper : n / 256 / d * d ≤ n / 256 = div-mul-le_self (n / 256) d in
    let lower : n / 256 * 256 ≤ n = div-mul-le_self n 256 in
    rw e (omega (arith, upper, lower))

pub first_within : (n d u : ℕ) → 0 < d → u ≡ n / 256 / d → 256 * u ≤ n
first_within n d u h e =
    let within = step_within n d u e in
    let one : 256 * u * 1 ≤ 256 * u * d = mul-le-mul_left (256 * u) h in
    omega (arith, within, one)

pub in_two_steps : (n d u l : ℕ) → 0 < d → u ≡ n / 256 / d → l ≡ (n - 256 * u * d) / d → 256 * u + l ≡ n / d
in_two_steps n d u l h eu el =
    let within = step_within n d u eu in
    let whole : n ≡ d * (256 * u) + (n - 256 * u * d) = omega (arith, within) in
    let sum : (d * (256 * u) + (n - 256 * u * d)) / d ≡ 256 * u + (n - 256 * u * d) / d = mul-add-div h (256 * u) (n - 256 * u * d) in
    ap (λ (x : ℕ). 256 * u + x) el ∙ sym sum ∙ ap (λ (x : ℕ). x / d) (sym whole)

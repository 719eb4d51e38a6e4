-- Products of integers, their laws and their order.
use Rattle.std.proofs.Common.{◌≡◌, ℤ, pos, negsuc, suc, ◌≤◌, ◌+ℤ◌, ◌*ℤ◌, ◌≤ℤ◌, ◌<ℤ◌, neg_ℤ, arith}
use Rattle.std.proofs.lemmas.Int.{ints, by_lt_z}
use Rattle.std.proofs.Math.Nat.{mul-le-mul_left}
use Rattle.cull_base.proofs.Ring.{diff-neg, diff-add, diff-mul, diff-same, over2, over3, over4}

pub mul_comm : (a b : ℤ) → a *ℤ b ≡ b *ℤ a
mul_comm = over2 (λ a b. a *ℤ b ≡ b *ℤ a) (λ a a' b b'. simp diff-mul (diff-same _ _ _ _ (omega arith)))

pub mul-add : (a b c : ℤ) → a *ℤ (b +ℤ c) ≡ (a *ℤ b) +ℤ (a *ℤ c)
mul-add = over3 (λ a b c. a *ℤ (b +ℤ c) ≡ (a *ℤ b) +ℤ (a *ℤ c)) (λ a a' b b' c c'. simp (diff-add, diff-mul) (diff-same _ _ _ _ (omega arith)))

pub mul-add_three : (a b c d : ℤ) → a *ℤ ((b +ℤ c) +ℤ d) ≡ ((a *ℤ b) +ℤ (a *ℤ c)) +ℤ (a *ℤ d)
mul-add_three = over4 (λ a b c d. a *ℤ ((b +ℤ c) +ℤ d) ≡ ((a *ℤ b) +ℤ (a *ℤ c)) +ℤ (a *ℤ d)) (λ a a' b b' c c' d d'. simp (diff-add, diff-mul) (diff-same _ _ _ _ (omega arith)))

-- a product rises with its second factor
pub times_le : (w a m : ℤ) → pos 0 ≤ℤ w → a ≤ℤ m → (w *ℤ a) ≤ℤ (w *ℤ m)
times_le (negsuc n) a m h k = absurd (omega (arith, ints, h))
times_le (pos n) (pos a) (pos m) h k = let le : a ≤ m = omega (arith, ints, k) in omega (arith, ints, mul-le-mul_left n le)
times_le (pos n) (pos a) (negsuc m) h k = absurd (omega (arith, ints, k))
times_le (pos n) (negsuc a) (pos m) h k = omega (arith, ints)
times_le (pos n) (negsuc a) (negsuc m) h k = let le : suc m ≤ suc a = omega (arith, ints, k) in omega (arith, ints, mul-le-mul_left n le)

-- and with its first
pub le_times : (a m w : ℤ) → pos 0 ≤ℤ w → a ≤ℤ m → (a *ℤ w) ≤ℤ (m *ℤ w)
le_times a m w h k = let e = mul_comm a w in let f = mul_comm m w in omega (arith, ints, e, f, times_le w a m h k)

pub times_one : (w : ℤ) → w *ℤ pos 1 ≡ w
times_one (pos n) = omega (arith, ints)
times_one (negsuc n) = omega (arith, ints)

-- what is no greater after a product with a positive number was no greater before
pub le_from_times : (a m w : ℤ) → pos 0 <ℤ w → (a *ℤ w) ≤ℤ (m *ℤ w) → a ≤ℤ m
le_from_times a m w h k =
    by_lt_z m a
    (λ l.
    let p = le_times (m +ℤ pos 1) a w (omega (arith, ints, h)) (omega (arith, ints, l)) in
    let e = mul_comm (m +ℤ pos 1) w in let f = mul-add w m (pos 1) in let g = mul_comm m w in let i = times_one w in
    absurd (omega (arith, ints, p, e, f, g, i, h, k)))
    (λ l. l)

pub neg-mul : (a b : ℤ) → neg_ℤ a *ℤ b ≡ neg_ℤ (a *ℤ b)
neg-mul = over2 (λ a b. neg_ℤ a *ℤ b ≡ neg_ℤ (a *ℤ b)) (λ a a' b b'. simp (diff-neg, diff-mul) (diff-same _ _ _ _ (omega arith)))

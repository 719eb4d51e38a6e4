-- Products of integers: their laws, and their order.
use Rattle.std.proofs.Common.{◌≡◌, ℕ, ℤ, pos, negsuc, suc, ◌*◌, ◌<◌, ◌≤◌, ◌+ℤ◌, ◌*ℤ◌, ◌≤ℤ◌, ◌<ℤ◌, arith}
use Rattle.std.proofs.lemmas.Int.{ints}
use Rattle.std.proofs.lemmas.Nat.{mul-le}
use Rattle.cull_base.proofs.Ring.{diff-add, diff-mul, diff-same, over3, over4}

pub pos-mul : (m n : ℕ) → pos m *ℤ pos n ≡ pos (m * n)
pos-mul m n = omega (arith, ints)

pub assoc : (x y z : ℤ) → (x *ℤ y) *ℤ z ≡ x *ℤ (y *ℤ z)
assoc = over3 (λ x y z. (x *ℤ y) *ℤ z ≡ x *ℤ (y *ℤ z)) (λ x x' y y' z z'. simp diff-mul (diff-same _ _ _ _ (omega arith)))

pub swapped : (x y z : ℤ) → (x *ℤ y) *ℤ z ≡ (x *ℤ z) *ℤ y
swapped = over3 (λ x y z. (x *ℤ y) *ℤ z ≡ (x *ℤ z) *ℤ y) (λ x x' y y' z z'. simp diff-mul (diff-same _ _ _ _ (omega arith)))

pub regrouped : (w x y z : ℤ) → (w *ℤ x) *ℤ (y *ℤ z) ≡ (w *ℤ y) *ℤ (x *ℤ z)
regrouped = over4 (λ w x y z. (w *ℤ x) *ℤ (y *ℤ z) ≡ (w *ℤ y) *ℤ (x *ℤ z)) (λ w w' x x' y y' z z'. simp diff-mul (diff-same _ _ _ _ (omega arith)))

pub distributed : (x y z : ℤ) → (x +ℤ y) *ℤ z ≡ (x *ℤ z) +ℤ (y *ℤ z)
distributed = over3 (λ x y z. (x +ℤ y) *ℤ z ≡ (x *ℤ z) +ℤ (y *ℤ z)) (λ x x' y y' z z'. simp (diff-add, diff-mul) (diff-same _ _ _ _ (omega arith)))

pub times-le : (x y : ℤ) (n : ℕ) → x ≤ℤ y → (x *ℤ pos n) ≤ℤ (y *ℤ pos n)
times-le (pos x) (pos y) n h = let a : x ≤ y = omega (arith, ints, h) in let m = mul-le x n y n a (omega arith) in omega (arith, ints, m)
times-le (pos x) (negsuc y) n h = absurd (omega (arith, ints, h))
times-le (negsuc x) (pos y) n h = omega (arith, ints)
times-le (negsuc x) (negsuc y) n h = let a : suc y ≤ suc x = omega (arith, ints, h) in let m = mul-le (suc y) n (suc x) n a (omega arith) in omega (arith, ints, m)

pub times-lt : (x y : ℤ) (n : ℕ) → 0 < n → x <ℤ y → (x *ℤ pos n) <ℤ (y *ℤ pos n)
times-lt (pos x) (pos y) n p h = let a : suc x ≤ y = omega (arith, ints, h) in let m = mul-le (suc x) n y n a (omega arith) in omega (arith, ints, m, p)
times-lt (pos x) (negsuc y) n p h = absurd (omega (arith, ints, h))
times-lt (negsuc x) (pos y) n p h = omega (arith, ints, p)
times-lt (negsuc x) (negsuc y) n p h = let a : suc (suc y) ≤ suc x = omega (arith, ints, h) in let m = mul-le (suc (suc y)) n (suc x) n a (omega arith) in omega (arith, ints, m, p)

-- How many bits a number has, and by which shift it is below 2^30.
use Rattle.std.proofs.Common.{◌≡◌, ◌⊎◌, inl, inr, ℕ, ◌<◌, ◌≤◌, ◌+◌, ◌-◌, ◌*◌, ◌^◌, max, arith}
use lib.Count.{count_leading_zeros}
use Rattle.std.proofs.Math.Nat.{pow-le-pow_right}
use Rattle.std.proofs.lemmas.Bool.{cases_lt}
use Rattle.std.proofs.lemmas.Nat.{leading_length, pow-add}

split : {P : Type 0} (m n : ℕ) → (m < n → P) → (n ≤ m → P) → P
split {P} m n f g = choose (cases_lt m n)
  where
    choose : (m < n) ⊎ (n ≤ m) → P
    choose (inl l) = f l
    choose (inr l) = g l

-- as wide as its leading zeros leave, and not less
pub width-enough : (a x : ℕ) → a < 2 ^ 64 → x ≡ max (64 - count_leading_zeros 64 a) 32 → a < 2 ^ (30 + (x - 30))
width-enough a x h e =
    let (m, w, less, k) = leading_length 64 a h in
    let le : m ≤ 30 + (x - 30) = omega (arith, w, e) in
    let p = pow-le-pow_right {n = 2} (omega arith) {i = m} {j = 30 + (x - 30)} le in
    omega (arith, less, p)

pub width-least : (a x s : ℕ) → a < 2 ^ 64 → x ≡ max (64 - count_leading_zeros 64 a) 32 → 2 ≤ s → a < 2 ^ (30 + s) → x - 30 ≤ s
width-least a x s h e two less =
    let (m, w, l, k) = leading_length 64 a h in
    let le : m ≤ 30 + s = narrow m (30 + s) a k less in
    omega (arith, w, e, le, two)
  where
    narrow : (m n a : ℕ) → 2 ^ m ≤ 2 * a + 1 → a < 2 ^ n → m ≤ n
    narrow m n a k less =
        split n m
        (λ gt. let le : n + 1 ≤ m = omega (arith, gt) in let p = pow-le-pow_right {n = 2} (omega arith) {i = n + 1} {j = m} le in let e = pow-add 2 n 1 in absurd (omega (arith, k, less, p, e)))
        (λ le. le)

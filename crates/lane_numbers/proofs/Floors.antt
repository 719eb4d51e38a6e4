-- Whole quotients by a positive number.
use Rattle.std.proofs.Common.{◌≡◌, ℕ, ℤ, pos, negsuc, suc, ◌<◌, ◌≤◌, ◌+ℤ◌, ◌*ℤ◌, ◌≤ℤ◌, ◌<ℤ◌, arith}
use Rattle.std.specs.Int.{int_div_euclid}
use Rattle.std.proofs.lemmas.Int.{ints, by_lt_z}
use Rattle.std.proofs.Math.Nat.{mul-le-mul_left}
use Rattle.lane_numbers.proofs.Ring.{diff-add, diff-mul, diff-same, over3}

-- a sum, so many times
pub add-times : (a b c : ℤ) → (a +ℤ b) *ℤ c ≡ (a *ℤ c) +ℤ (b *ℤ c)
add-times = over3 (λ a b c. (a +ℤ b) *ℤ c ≡ (a *ℤ c) +ℤ (b *ℤ c)) (λ a a' b b' c c'. simp (diff-add, diff-mul) (diff-same _ _ _ _ (omega arith)))

-- the order of two factors that follow a third
pub times-swap : (a b c : ℤ) → (a *ℤ b) *ℤ c ≡ (a *ℤ c) *ℤ b
times-swap = over3 (λ a b c. (a *ℤ b) *ℤ c ≡ (a *ℤ c) *ℤ b) (λ a a' b b' c c'. simp diff-mul (diff-same _ _ _ _ (omega arith)))

-- a product rises with its first factor
pub le-times : (a b : ℤ) (p : ℕ) → a ≤ℤ b → (a *ℤ pos p) ≤ℤ (b *ℤ pos p)
le-times (pos a) (pos b) p h = let le : a ≤ b = omega (arith, ints, h) in let k = mul-le-mul_left p le in omega (arith, ints, k)
le-times (pos a) (negsuc b) p h = absurd (omega (arith, ints, h))
le-times (negsuc a) (pos b) p h = omega (arith, ints)
le-times (negsuc a) (negsuc b) p h = let le : suc b ≤ suc a = omega (arith, ints, h) in let k = mul-le-mul_left p le in omega (arith, ints, k)

-- what is no greater, so many times, or by less than once more, was no greater before
pub le-from_times : (a b : ℤ) (p : ℕ) → (a *ℤ pos p) <ℤ ((b *ℤ pos p) +ℤ pos p) → a ≤ℤ b
le-from_times a b p h =
    by_lt_z b a
    (λ l.
    let k = le-times (b +ℤ pos 1) a p (omega (arith, ints, l)) in
    let e = add-times b (pos 1) (pos p) in
    absurd (omega (arith, ints, h, k, e)))
    (λ l. l)

-- and what is less, so many times, was less before
pub lt-from_times : (a b : ℤ) (p : ℕ) → (a *ℤ pos p) <ℤ (b *ℤ pos p) → a <ℤ b
lt-from_times a b p h = by_lt_z a b (λ l. l) (λ l. let k = le-times b a p l in absurd (omega (arith, ints, h, k)))

-- a quotient, so many times, is at most the number and less than one divisor below it
pub floor-le : (n : ℤ) (p : ℕ) → 0 < p → (int_div_euclid n (pos p) *ℤ pos p) ≤ℤ n
floor-le (pos a) p h = omega (arith, ints)
floor-le (negsuc a) p h = omega (arith, ints)

pub floor-lt : (n : ℤ) (p : ℕ) → 0 < p → n <ℤ ((int_div_euclid n (pos p) *ℤ pos p) +ℤ pos p)
floor-lt (pos a) p h = omega (arith, ints)
floor-lt (negsuc a) p h = omega (arith, ints)

-- only the quotient is
pub floor_is : (n q : ℤ) (p : ℕ) → 0 < p → (q *ℤ pos p) ≤ℤ n → n <ℤ ((q *ℤ pos p) +ℤ pos p) → int_div_euclid n (pos p) ≡ q
floor_is n q p h le lt =
    let f = int_div_euclid n (pos p) in
    both f q
    (le-from_times f q p (through (f *ℤ pos p) n ((q *ℤ pos p) +ℤ pos p) (floor-le n p h) lt))
    (le-from_times q f p (through (q *ℤ pos p) n ((f *ℤ pos p) +ℤ pos p) le (floor-lt n p h)))
  where
    through : (x y z : ℤ) → x ≤ℤ y → y <ℤ z → x <ℤ z
    through x y z i j = omega (arith, ints, i, j)

    both : (x y : ℤ) → x ≤ℤ y → y ≤ℤ x → x ≡ y
    both x y i j = omega (arith, ints, i, j)

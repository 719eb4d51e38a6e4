-- How many bits a number has, and what a shift leaves of it.
use Rattle.std.proofs.Common.{◌≡◌, ℕ, ℤ, pos, negsuc, suc, nat_abs, ◌<◌, ◌≤◌, ◌+◌, ◌-◌, ◌*◌, ◌/◌, ◌%◌, ◌^◌, ◌+ℤ◌, ◌*ℤ◌, ◌≤ℤ◌, max, FitsSigned, w64, arith, refl}
use lib.Count.{count_leading_zeros}
use lib.Signed.{shr_z}
use Rattle.std.specs.Int.{int_div_euclid}
use Rattle.std.proofs.lemmas.Int.{ints}
use Rattle.std.proofs.Math.Nat.{pow-le-pow_right, mul-le-mul_left, mul-le-mul_right}
use Rattle.std.proofs.lemmas.Nat.{leading_length, pow-add, pow_pos}
use Rattle.cull_base.specs.Bounds.{Bounded}
use Rattle.pixel_forms.specs.Narrow.{IsFloor}

-- as wide as its leading zeros leave, and not less than k
pub width : (n k a m : ℕ) → a < 2 ^ n → m ≡ max (n - count_leading_zeros n a) k → a < 2 ^ (k + (m - k))
width n k a m h em =
    let (w, e, less, most) = leading_length n a h in
    let le : w ≤ k + (m - k) = enough n k m w (count_leading_zeros n a) e em in
    let p : 2 ^ w ≤ 2 ^ (k + (m - k)) = pow-le-pow_right {n = 2} (omega arith) le in
    below a (2 ^ w) (2 ^ (k + (m - k))) less p
  where
    enough : (n k m w c : ℕ) → c + w ≡ n → m ≡ max (n - c) k → w ≤ k + (m - k)
    enough n k m w c e em = omega (arith, e, em)

    below : (a b c : ℕ) → a < b → b ≤ c → a < c
    below a b c h i = omega (arith, h, i)

shift_is : (v : ℤ) (d : ℕ) → shr_z v d ≡ int_div_euclid v (pos d)
shift_is (pos n) d = refl
shift_is (negsuc n) d = refl

floor-le : (n : ℤ) (p : ℕ) → 0 < p → (int_div_euclid n (pos p) *ℤ pos p) ≤ℤ n
floor-le (pos a) p h = omega (arith, ints)
floor-le (negsuc a) p h = omega (arith, ints)

floor-lt : (n : ℤ) (p : ℕ) → 0 < p → n ≤ℤ ((int_div_euclid n (pos p) *ℤ pos p) +ℤ pos p)
floor-lt (pos a) p h = omega (arith, ints)
floor-lt (negsuc a) p h = omega (arith, ints)

pub shift-floor : (v : ℤ) (k : ℕ) → IsFloor v (2 ^ k) (shr_z v (2 ^ k))
shift-floor v k = let d = pow_pos k in let e = shift_is v (2 ^ k) in rw e (record { low = floor-le v (2 ^ k) d; high = floor-lt v (2 ^ k) d })

quotient-fits : (v : ℤ) (d : ℕ) → 0 < d → FitsSigned w64 v → FitsSigned w64 (int_div_euclid v (pos d))
quotient-fits (pos n) d h f = omega (arith, ints, h, f)
quotient-fits (negsuc n) d h f = omega (arith, ints, h, f)

pub shift-fits : (v : ℤ) (k : ℕ) → FitsSigned w64 v → FitsSigned w64 (shr_z v (2 ^ k))
shift-fits v k f = let e = shift_is v (2 ^ k) in rw e (quotient-fits v (2 ^ k) (pow_pos k) f)

not_less : (a b : ℕ) → (b < a → 1 ≤ 0) → a ≤ b
not_less a b h = grind (arith, h)

-- what is left of a number that has so many steps
pub floor-bounded : (m p : ℕ) (v q : ℤ) → nat_abs v < m * p → IsFloor v p q → Bounded m q
floor-bounded m p v (pos q) h f = let le : q ≤ m = not_less q m (λ (gt : m < q). let k : m * p ≤ q * p = mul-le-mul_right p (omega (arith, gt)) in past v (q * p) (m * p) h f.low k) in (omega (arith, ints), omega (arith, ints, le))
  where
    past : (v : ℤ) (a b : ℕ) → nat_abs v < b → pos a ≤ℤ v → b ≤ a → 1 ≤ 0
    past (pos v) a b h i k = omega (arith, ints, h, i, k)
    past (negsuc v) a b h i k = absurd (omega (arith, ints, i))
floor-bounded m p v (negsuc q) h f = let le : suc q ≤ m = not_less (suc q) m (λ (gt : m < suc q). let k : m * p ≤ q * p = mul-le-mul_right p (omega (arith, gt)) in past v q p (m * p) h f.high k) in (omega (arith, ints, le), omega (arith, ints))
  where
    past : (v : ℤ) (q p b : ℕ) → nat_abs v < b → v ≤ℤ ((negsuc q *ℤ pos p) +ℤ pos p) → b ≤ q * p → 1 ≤ 0
    past (pos v) q p b h i k = omega (arith, ints, h, i, k)
    past (negsuc v) q p b h i k = omega (arith, ints, h, i, k)

-- a power of two more
pub split-power : (a k r : ℕ) → a < 2 ^ (k + r) → a < 2 ^ k * 2 ^ r
split-power a k r h = let e = pow-add 2 k r in omega (arith, h, e)

pub quotient-enough : (off p : ℕ) → 0 < p → off + p ≤ (off / p + 2) * p
quotient-enough off p h = let e : off < (off / p + 1) * p = rounded off p h in omega (arith, e)
  where
    rounded : (n p : ℕ) → 0 < p → n < (n / p + 1) * p
    rounded n p h = omega (arith, h)

pub quotient-le : (n p : ℕ) → 0 < p → n / p ≤ n
quotient-le n p h = omega (arith, h)

-- a quotient's product
pub quotient-product : (n d q : ℕ) → 0 < d → q ≤ n / d → q * d ≤ n
quotient-product n d q h le = let k : q * d ≤ (n / d) * d = mul-le-mul_right d le in let e : (n / d) * d ≤ n = back n d h in omega (arith, k, e)
  where
    back : (n d : ℕ) → 0 < d → (n / d) * d ≤ n
    back n d h = omega (arith, h)

-- a lower power
pub lower-power : (n j k : ℕ) → j ≤ k → n * 2 ^ j ≤ n * 2 ^ k
lower-power n j k h = let p : 2 ^ j ≤ 2 ^ k = pow-le-pow_right {n = 2} (omega arith) h in mul-le-mul_left n p

-- a shift that may lose digits is no more than one by more
pub shifted-le : (n s j k m : ℕ) → n ≡ s → j ≤ k → 0 < m → (n * 2 ^ j) % m ≤ s * 2 ^ k
shifted-le n s j k m e le h = let p = lower-power s j k le in rw e (chain ((s * 2 ^ j) % m) (s * 2 ^ j) (s * 2 ^ k) (mod-le (s * 2 ^ j) m h) p)
  where
    mod-le : (n m : ℕ) → 0 < m → n % m ≤ n
    mod-le n m h = omega (arith, h)

    chain : (a b c : ℕ) → a ≤ b → b ≤ c → a ≤ c
    chain a b c h i = omega (arith, h, i)

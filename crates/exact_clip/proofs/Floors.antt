-- Numbers that are rounded down to multiples of a power of two.
use Rattle.std.proofs.Common.{◌≡◌, ℕ, ℤ, pos, negsuc, suc, zero, ◌<◌, ◌≤◌, ◌^◌, ◌⊎◌, inl, inr, min, subst, arith}
use Rattle.std.proofs.lemmas.Int.{ints}
use Rattle.std.proofs.lemmas.Nat.{mul-le}
use Rattle.std.proofs.lemmas.Bool.{cases_lt}
use Rattle.std.proofs.Math.Nat.{pow-le-pow_right}
use Rattle.cull_base.specs.Bounds.{Bounded}
use Rattle.exact_clip.specs.Terms.{IsFloor}

-- what is rounded down is no greater than before
pub floor-bounded : (p q : ℤ) (d : ℕ) → 0 < d → Bounded (2 ^ 60) p → IsFloor p d q → Bounded (2 ^ 60) q
floor-bounded p (pos n) d h b f = let m = mul-le n 1 n d (omega arith) (omega (arith, h)) in (omega (arith, ints), omega (arith, ints, m, b, f.low))
floor-bounded p (negsuc n) d h b f = let m = mul-le n 1 n d (omega arith) (omega (arith, h)) in (omega (arith, ints, m, b, f.high), omega (arith, ints))

-- From 2^63 on it is 0 or -1, as it is at 2^63.
beyond : (p q : ℤ) (d : ℕ) → Bounded (2 ^ 60) p → 2 ^ 63 ≤ d → IsFloor p (2 ^ 63) q → IsFloor p d q
beyond p (pos zero) d b le f = record { low = omega (arith, ints, f.low); high = omega (arith, ints, b, le) }
beyond p (pos (suc n)) d b le f = absurd (omega (arith, ints, b, f.low))
beyond p (negsuc zero) d b le f = record { low = omega (arith, ints, b, le); high = omega (arith, ints, f.high) }
beyond p (negsuc (suc n)) d b le f = absurd (omega (arith, ints, b, f.high))

cut_off-by : (p q : ℤ) (d k : ℕ) → (d < 63) ⊎ (63 ≤ d) → Bounded (2 ^ 60) p → k ≡ min d 63 → IsFloor p (2 ^ k) q → IsFloor p (2 ^ d) q
cut_off-by p q d k (inl l) b e f = let same : k ≡ d = omega (arith, e, l) in subst (λ (t : ℕ). IsFloor p (2 ^ t) q) same f
cut_off-by p q d k (inr g) b e f =
    let same : k ≡ 63 = omega (arith, e, g) in
    let two : 0 < 2 = omega arith in
    beyond p q (2 ^ d) b (pow-le-pow_right {n = 2} two {i = 63} {j = d} g) (subst (λ (t : ℕ). IsFloor p (2 ^ t) q) same f)

pub cut_off : (p q : ℤ) (d k : ℕ) → Bounded (2 ^ 60) p → k ≡ min d 63 → IsFloor p (2 ^ k) q → IsFloor p (2 ^ d) q
cut_off p q d k b e f = cut_off-by p q d k (cases_lt d 63) b e f

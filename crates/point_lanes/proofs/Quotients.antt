-- Quotients by a reciprocal that is never too great: at most one too small, and told by what is left.
use Rattle.std.proofs.Common.{◌≡◌, ℕ, zero, suc, ◌+◌, ◌*◌, ◌/◌, ◌<◌, ◌≤◌, Bool, true, false, cond, nat_le, refl, sym, ap, ◌∙◌, subst, arith}
use Rattle.std.proofs.Math.Nat.{mul-le-mul_left, le_of_mul-le-mul_left, lt_of_mul-lt-mul_left, div-eq_of_lt-le}
use Rattle.std.proofs.lemmas.Bool.Decides.{nat_tests}
use Rattle.point_lanes.specs.Divisors.{IsDivisor}

-- ---- by 2^32

whole_low : (n : ℕ) → n / 4294967296 * 4294967296 ≤ n
whole_low n = omega arith

whole_high : (n : ℕ) → n < n / 4294967296 * 4294967296 + 4294967296
whole_high n = omega arith

-- ---- a quotient that is exact or one too small, by what is left

pub rounded_is : (n d q rest : ℕ) → q * d ≤ n → n < q * d + 2 * d → rest + q * d ≡ n → n / d ≡ q + cond (nat_le d rest) 1 0
rounded_is n d q rest low high e = by (nat_le d rest) refl
  where
    same : (m : ℕ) → m * d ≤ n → n < (m + 1) * d → n / d ≡ m
    same m l h = div-eq_of_lt-le d l h

    by : (t : Bool) → nat_le d rest ≡ t → n / d ≡ q + cond t 1 0
    by true is = let le : d ≤ rest = grind (arith, nat_tests) in same (q + 1) (omega (arith, le, e)) (omega (arith, high))
    by false is = let lt : rest < d = grind (arith, nat_tests) in same q low (omega (arith, lt, e)) ∙ omega arith

-- ---- places: x / w in parts of 2^-24, and so many eighths of a pixel times that

-- n is w k, where 128 k makes w a number of 32 digits, and r is 2^56 over n
place_low : (p s n r t e : ℕ) → n * r ≤ 72057594037927936 → t * 4294967296 ≤ s * r → e * 2097152 ≤ t * p → n * e ≤ 8 * (p * s)
place_low p s n r t e nr ts et =
    let a : p * (t * 4294967296) ≤ p * (s * r) = mul-le-mul_left p ts in
    let b : e * 9007199254740992 ≤ p * (s * r) = first (t * p) (p * (s * r)) et (turned a) in
    let c : n * (e * 9007199254740992) ≤ n * (p * (s * r)) = mul-le-mul_left n b in
    let d : p * s * (n * r) ≤ p * s * 72057594037927936 = mul-le-mul_left (p * s) nr in
    last (n * e) (p * s) (n * (p * (s * r))) (second c) (third d)
  where
    turned : p * (t * 4294967296) ≤ p * (s * r) → t * p * 4294967296 ≤ p * (s * r)
    turned a = omega (arith, a)

    first : (tp b : ℕ) → e * 2097152 ≤ tp → tp * 4294967296 ≤ b → e * 9007199254740992 ≤ b
    first tp b h k = omega (arith, h, k)

    second : n * (e * 9007199254740992) ≤ n * (p * (s * r)) → n * e * 9007199254740992 ≤ n * (p * (s * r))
    second c = omega (arith, c)

    third : p * s * (n * r) ≤ p * s * 72057594037927936 → n * (p * (s * r)) ≤ p * s * 72057594037927936
    third d = omega (arith, d)

    last : (ne ps m : ℕ) → ne * 9007199254740992 ≤ m → m ≤ ps * 72057594037927936 → ne ≤ 8 * ps
    last ne ps m c d = omega (arith, c, d)

place_high : (p s n r t e : ℕ) → p ≤ 2048 → 1 ≤ n → s ≤ 128 * n → 72057594037927936 < n * r + 402653184 → s * r < t * 4294967296 + 4294967296 → t * p < e * 2097152 + 2097152 → 16 * (p * s) < 2 * (n * e) + 3 * n
place_high p s n r t e lp ln ls nr ts et =
    let a : p * (s * r) ≤ p * (t * 4294967296 + 4294967296) = mul-le-mul_left p (omega (arith, ts)) in
    let b : p * (s * r) ≤ (e * 2097152 + 2097152) * 4294967296 + p * 4294967296 = first (t * p) (p * (s * r)) et (turned a) in
    let c : n * (p * (s * r)) ≤ n * ((e * 2097152 + 2097152) * 4294967296 + p * 4294967296) = mul-le-mul_left n b in
    let d : p * s * 72057594037927936 ≤ p * s * (n * r + 402653184) = mul-le-mul_left (p * s) (omega (arith, nr)) in
    let f : p * s ≤ p * (128 * n) = mul-le-mul_left p ls in
    let g : n * p ≤ n * 2048 = mul-le-mul_left n lp in
    last (n * e) (p * s) (n * p) (n * (p * (s * r))) (second c) (third d) (fourth f) g
  where
    turned : p * (s * r) ≤ p * (t * 4294967296 + 4294967296) → p * (s * r) ≤ t * p * 4294967296 + p * 4294967296
    turned a = omega (arith, a)

    first : (tp b : ℕ) → tp < e * 2097152 + 2097152 → b ≤ tp * 4294967296 + p * 4294967296 → b ≤ (e * 2097152 + 2097152) * 4294967296 + p * 4294967296
    first tp b h k = omega (arith, h, k)

    second : n * (p * (s * r)) ≤ n * ((e * 2097152 + 2097152) * 4294967296 + p * 4294967296) → n * (p * (s * r)) ≤ n * e * 9007199254740992 + n * 9007199254740992 + n * p * 4294967296
    second c = omega (arith, c)

    third : p * s * 72057594037927936 ≤ p * s * (n * r + 402653184) → p * s * 72057594037927936 ≤ n * (p * (s * r)) + p * s * 402653184
    third d = omega (arith, d)

    fourth : p * s ≤ p * (128 * n) → p * s ≤ 128 * (n * p)
    fourth f = omega (arith, f)

    last : (ne ps np m : ℕ) → m ≤ ne * 9007199254740992 + n * 9007199254740992 + np * 4294967296 → ps * 72057594037927936 ≤ m + ps * 402653184 → ps ≤ 128 * np → np ≤ n * 2048 → 16 * ps < 2 * ne + 3 * n
    last ne ps np m c d f g = omega (arith, c, d, f, g, ln)

-- what a place's guess is: never too great, and less than one and a half too small
pub record IsPlaceGuess (p x w e : ℕ) : Type 0 where
  pub low : e * w ≤ 8 * (p * x)
  pub high : 16 * (p * x) < 2 * (e * w) + 3 * w

-- the bits of the guess
guess_low : (tp e : ℕ) → e ≡ tp * 1048576 / 4294967296 / 512 → e * 2097152 ≤ tp
guess_low tp e is = omega (arith, is)

guess_high : (tp e : ℕ) → e ≡ tp * 1048576 / 4294967296 / 512 → tp < e * 2097152 + 2097152
guess_high tp e is = omega (arith, is)

pub place_guess : (p x w power r s t e : ℕ) → IsDivisor w power r → p ≤ 2048 → x < 128 * w → s ≡ x * (power / 128) → t ≡ s * r / 4294967296 → e ≡ t * (1048576 * p) / 4294967296 / 512 → IsPlaceGuess p x w e
place_guess p x w power r s t e h lp lx es et ee = by (power / 128) h.whole es
  where
    in_order : t * (1048576 * p) ≡ t * p * 1048576
    in_order = omega arith

    positive : (k : ℕ) → 1 ≤ w * k → 0 < k
    positive zero l = absurd (omega (arith, l))
    positive (suc k) l = omega arith

    product : (k : ℕ) → 128 * k ≡ power → w * power ≡ 128 * (w * k)
    product k e = ap (λ (z : ℕ). w * z) (sym e) ∙ omega arith

    low_of : (m n : ℕ) → m ≡ 128 * n → m * r ≤ 9223372036854775808 → n * r ≤ 72057594037927936
    low_of m n e l = let f : m * r ≡ 128 * n * r = ap (λ (z : ℕ). z * r) e in omega (arith, f, l)

    high_of : (m n : ℕ) → m ≡ 128 * n → 9223372036854775808 < m * r + 51539607552 → 72057594037927936 < n * r + 402653184
    high_of m n e l = let f : m * r ≡ 128 * n * r = ap (λ (z : ℕ). z * r) e in omega (arith, f, l)

    some_of : (m n : ℕ) → m ≡ 128 * n → 2147483648 ≤ m → 1 ≤ n
    some_of m n e l = omega (arith, e, l)

    within : (k : ℕ) → x * k ≤ 128 * (w * k)
    within k = let m : k * x ≤ k * (128 * w) = mul-le-mul_left k (omega (arith, lx)) in omega (arith, m)

    low_left : (k : ℕ) → w * k * e ≤ 8 * (p * (x * k)) → k * (e * w) ≤ k * (8 * (p * x))
    low_left k l = omega (arith, l)

    high_left : (k : ℕ) → 16 * (p * (x * k)) < 2 * (w * k * e) + 3 * (w * k) → k * (16 * (p * x)) < k * (2 * (e * w) + 3 * w)
    high_left k l = omega (arith, l)

    at : (k : ℕ) → 0 < k → w * k * e ≤ 8 * (p * (x * k)) → 16 * (p * (x * k)) < 2 * (w * k * e) + 3 * (w * k) → IsPlaceGuess p x w e
    at k some l h = record { low = le_of_mul-le-mul_left (low_left k l) some; high = lt_of_mul-lt-mul_left k (high_left k h) }

    by : (k : ℕ) → 128 * k ≡ power → s ≡ x * k → IsPlaceGuess p x w e
    by k whole is =
        let m = product k whole in
        let some = some_of (w * power) (w * k) m h.product_least in
        let guess : e ≡ t * p * 1048576 / 4294967296 / 512 = ee ∙ ap (λ (z : ℕ). z / 4294967296 / 512) in_order in
        let ts : t * 4294967296 ≤ s * r = subst (λ (z : ℕ). z * 4294967296 ≤ s * r) (sym et) (whole_low (s * r)) in
        let st : s * r < t * 4294967296 + 4294967296 = subst (λ (z : ℕ). s * r < z * 4294967296 + 4294967296) (sym et) (whole_high (s * r)) in
        let l : w * k * e ≤ 8 * (p * s) = place_low p s (w * k) r t e (low_of (w * power) (w * k) m h.low) ts (guess_low (t * p) e guess) in
        let u : 16 * (p * s) < 2 * (w * k * e) + 3 * (w * k) =
        place_high p s (w * k) r t e lp some (subst (λ (z : ℕ). z ≤ 128 * (w * k)) (sym is) (within k)) (high_of (w * power) (w * k) m h.high) st (guess_high (t * p) e guess) in
        at k (positive k some) (subst (λ (z : ℕ). w * k * e ≤ 8 * (p * z)) is l) (subst (λ (z : ℕ). 16 * (p * z) < 2 * (w * k * e) + 3 * (w * k)) is u)

-- ---- nearness: a number over w, where a power of two times it is held in 32 bits

-- number u over v is held as k, rounded down; f u is twice the power times v
pub record IsHeld (number k u v f power : ℕ) : Type 0 where
  pub some : 0 < v
  pub low : k * v ≤ number * u
  pub high : number * u ≤ k * v + v
  pub factor : f * u ≡ 2 * (power * v)

nearness_low : (number k u v f power w r a e : ℕ) → IsHeld number k u v f power → w * power * r ≤ 9223372036854775808 → a * 4294967296 ≤ k * r → e * 4294967296 ≤ a * f → e * w ≤ number
nearness_low number k u v f power w r a e h low ak ea =
    let a1 : f * (a * 4294967296) ≤ f * (k * r) = mul-le-mul_left f ak in
    let a2 : f * r * (k * v) ≤ f * r * (number * u) = mul-le-mul_left (f * r) h.low in
    let a3 : v * (e * 18446744073709551616) ≤ v * (f * (k * r)) = mul-le-mul_left v (first (a * f) (f * (k * r)) ea (turned a1)) in
    let e1 : number * r * (f * u) ≡ number * r * (2 * (power * v)) = ap (λ (z : ℕ). number * r * z) h.factor in
    let b : e * 18446744073709551616 ≤ 2 * (number * (r * power)) = le_of_mul-le-mul_left (second a2 a3 e1) h.some in
    let a4 : w * (e * 18446744073709551616) ≤ w * (2 * (number * (r * power))) = mul-le-mul_left w b in
    let a5 : number * (w * power * r) ≤ number * 9223372036854775808 = mul-le-mul_left number low in
    third a4 a5
  where
    turned : f * (a * 4294967296) ≤ f * (k * r) → a * f * 4294967296 ≤ f * (k * r)
    turned l = omega (arith, l)

    first : (af m : ℕ) → e * 4294967296 ≤ af → af * 4294967296 ≤ m → e * 18446744073709551616 ≤ m
    first af m i j = omega (arith, i, j)

    second : f * r * (k * v) ≤ f * r * (number * u) → v * (e * 18446744073709551616) ≤ v * (f * (k * r)) → number * r * (f * u) ≡ number * r * (2 * (power * v)) → v * (e * 18446744073709551616) ≤ v * (2 * (number * (r * power)))
    second i j is = omega (arith, i, j, is)

    third : w * (e * 18446744073709551616) ≤ w * (2 * (number * (r * power))) → number * (w * power * r) ≤ number * 9223372036854775808 → e * w ≤ number
    third i j = omega (arith, i, j)

nearness_high : (number k u v f power w r a e : ℕ) → IsHeld number k u v f power → 1 ≤ w → f ≤ 134217728 → number ≤ 16777216 * w → r ≤ 4294967296 → 9223372036854775808 < w * power * r + 51539607552 → k * r ≤ a * 4294967296 + 4294967296 → a * f ≤ e * 4294967296 + 4294967296 →
    number < e * w + 2 * w
nearness_high number k u v f power w r a e h lw lf ln lr high ka ae =
    let a1 : v * (k * r) ≤ v * (a * 4294967296 + 4294967296) = mul-le-mul_left v ka in
    let a2 : r * (number * u) ≤ r * (k * v + v) = mul-le-mul_left r h.high in
    let a3 : v * r ≤ v * 4294967296 = mul-le-mul_left v lr in
    let b1 : r * (number * u) ≤ v * (a + 2) * 4294967296 = first a1 a2 a3 in
    let b2 : f * (r * (number * u)) ≤ f * (v * (a + 2) * 4294967296) = mul-le-mul_left f b1 in
    let e1 : number * r * (f * u) ≡ number * r * (2 * (power * v)) = ap (λ (z : ℕ). number * r * z) h.factor in
    let b3 : 2 * (number * (r * power)) ≤ (a * f + 2 * f) * 4294967296 = le_of_mul-le-mul_left (second b2 e1) h.some in
    let b4 : 2 * (number * (r * power)) ≤ e * 18446744073709551616 + 18446744073709551616 + f * 8589934592 = third (a * f) (number * (r * power)) ae b3 in
    let b5 : w * (2 * (number * (r * power))) ≤ w * (e * 18446744073709551616 + 18446744073709551616 + f * 8589934592) = mul-le-mul_left w b4 in
    let c1 : number * 9223372036854775808 ≤ number * (w * power * r + 51539607552) = mul-le-mul_left number (omega (arith, high)) in
    let c2 : w * f ≤ w * 134217728 = mul-le-mul_left w lf in
    turned (last (w * e) (w * f) (number * (w * power * r)) (fourth b5) (fifth c1) c2)
  where
    turned : number < w * e + 2 * w → number < e * w + 2 * w
    turned l = omega (arith, l)

    first : v * (k * r) ≤ v * (a * 4294967296 + 4294967296) → r * (number * u) ≤ r * (k * v + v) → v * r ≤ v * 4294967296 → r * (number * u) ≤ v * (a + 2) * 4294967296
    first i j l = omega (arith, i, j, l)

    second : f * (r * (number * u)) ≤ f * (v * (a + 2) * 4294967296) → number * r * (f * u) ≡ number * r * (2 * (power * v)) → v * (2 * (number * (r * power))) ≤ v * ((a * f + 2 * f) * 4294967296)
    second i is = omega (arith, i, is)

    third : (af m : ℕ) → af ≤ e * 4294967296 + 4294967296 → 2 * m ≤ (af + 2 * f) * 4294967296 → 2 * m ≤ e * 18446744073709551616 + 18446744073709551616 + f * 8589934592
    third af m i j = omega (arith, i, j)

    fourth : w * (2 * (number * (r * power))) ≤ w * (e * 18446744073709551616 + 18446744073709551616 + f * 8589934592) → 2 * (number * (w * power * r)) ≤ w * e * 18446744073709551616 + w * 18446744073709551616 + w * f * 8589934592
    fourth l = omega (arith, l)

    fifth : number * 9223372036854775808 ≤ number * (w * power * r + 51539607552) → number * 9223372036854775808 ≤ number * (w * power * r) + number * 51539607552
    fifth l = omega (arith, l)

    last : (we wf m : ℕ) → 2 * m ≤ we * 18446744073709551616 + w * 18446744073709551616 + wf * 8589934592 → number * 9223372036854775808 ≤ m + number * 51539607552 → wf ≤ w * 134217728 → number < we + 2 * w
    last we wf m i j l = omega (arith, i, j, l, ln, lw)

-- what nearness' guess is: exact or one too small
pub record IsNearnessGuess (number w e : ℕ) : Type 0 where
  pub low : e * w ≤ number
  pub high : number < e * w + 2 * w

pub nearness_guess : (number k u v f power w r a e : ℕ) → IsHeld number k u v f power → IsDivisor w power r → f ≤ 134217728 → number ≤ 16777216 * w → r ≤ 4294967296 → a ≡ k * r / 4294967296 → e ≡ a * f / 4294967296 → IsNearnessGuess number w e
nearness_guess number k u v f power w r a e h d lf ln lr ea ee =
    record {
      low = nearness_low number k u v f power w r a e h d.low (subst (λ (z : ℕ). z * 4294967296 ≤ k * r) (sym ea) (whole_low (k * r))) (subst (λ (z : ℕ). z * 4294967296 ≤ a * f) (sym ee) (whole_low (a * f)));
      high = nearness_high number k u v f power w r a e h d.least lf ln lr d.high (le_of _ _ (subst (λ (z : ℕ). k * r < z * 4294967296 + 4294967296) (sym ea) (whole_high (k * r)))) (le_of _ _ (subst (λ (z : ℕ). a * f < z * 4294967296 + 4294967296) (sym ee) (whole_high (a * f))));
    }
  where
    le_of : (m n : ℕ) → m < n → m ≤ n
    le_of m n l = omega (arith, l)

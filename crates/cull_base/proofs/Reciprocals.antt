-- A quotient estimated by the reciprocal of its divisor.
use Rattle.std.proofs.Common.{◌≡◌, ℕ, suc, ◌+◌, ◌*◌, ◌-◌, ◌/◌, ◌%◌, ◌^◌, ◌<◌, ◌≤◌, arith, refl}
use Rattle.std.proofs.Math.Nat.{mul-le-mul_left, div-add-mod, mod-lt}
use Rattle.cull_base.specs.Divisor.{IsDivisor}

not_less : (a b : ℕ) → (b < a → 1 ≤ 0) → a ≤ b
not_less a b h = grind (arith, h)

-- An estimate g of n/d by m, where s = m d + r: never too great.
estimate_least : (n d m s r g : ℕ) → s ≡ m * d + r → 0 < s → g * s ≤ n * m → g * d ≤ n
estimate_least n d m s r g e p h = not_less (g * d) n (λ (q : n < g * d).
    let a : s * (n + 1) ≤ s * (g * d) = mul-le-mul_left s (omega (arith, q)) in
    let b : d * (g * s) ≤ d * (n * m) = mul-le-mul_left d h in
    let c : n * s ≡ n * (m * d + r) = rw e refl in
    omega (arith, a, b, c, p))

-- and at most one too small, where n is at most s and r at most d
estimate_most : (n d m s r g : ℕ) → s ≡ m * d + r → 0 < d → r ≤ d → n ≤ s → n * m < (g + 1) * s → n < (g + 2) * d
estimate_most n d m s r g e p rd ns h = let z = not_less (n + 1) ((g + 2) * d) (λ (q : (g + 2) * d < n + 1).
    let a : s * ((g + 2) * d) ≤ s * n = mul-le-mul_left s (omega (arith, q)) in
    let b : d * (n * m + 1) ≤ d * ((g + 1) * s) = mul-le-mul_left d (omega (arith, h)) in
    let c : n * s ≡ n * (m * d + r) = rw e refl in
    let f : n * r ≤ n * d = mul-le-mul_left n rd in
    let k : d * n ≤ d * s = mul-le-mul_left d ns in
    omega (arith, a, b, c, f, k, p)) in omega (arith, z)

pub record IsEstimate (n d g : ℕ) : Type 0 where
  pub least : g * d ≤ n
  pub most : n < (g + 2) * d

pub estimate : (n d m : ℕ) → 0 < d → m ≡ (2 ^ 64 - 1) / d → n < 2 ^ 64 → IsEstimate n d (n * m / 2 ^ 64)
estimate n d m h e lt =
    let whole : d * ((2 ^ 64 - 1) / d) + (2 ^ 64 - 1) % d ≡ 2 ^ 64 - 1 = div-add-mod (2 ^ 64 - 1) d in
    let s : 2 ^ 64 ≡ m * d + suc ((2 ^ 64 - 1) % d) = rw e (omega (arith, whole)) in
    let r : suc ((2 ^ 64 - 1) % d) ≤ d = mod-lt (2 ^ 64 - 1) h in
    record {
      least = estimate_least n d m (2 ^ 64) _ (n * m / 2 ^ 64) s (omega arith) (omega arith);
      most = estimate_most n d m (2 ^ 64) _ (n * m / 2 ^ 64) s h r (omega (arith, lt)) (omega arith);
    }

-- by the numbers that the code took
pub estimate_of : (n d m a b e : ℕ) → e ≡ d → IsDivisor e m → n < 2 ^ 64 → a ≡ n → b ≡ m → IsEstimate n d (a * b / 2 ^ 64)
estimate_of n d m a b e h i lt ea eb = rw (ea, eb, ← h) (estimate n e m i.positive i.is_reciprocal lt)

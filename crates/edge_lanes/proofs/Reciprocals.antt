-- The reciprocal of a short number by a division of 32 bits, and the quotients that a reciprocal gives.
use Rattle.std.proofs.Common.{◌≡◌, ℕ, zero, suc, ◌+◌, ◌*◌, ◌-◌, ◌/◌, ◌%◌, ◌^◌, ◌<◌, ◌≤◌, arith, ap}
use Rattle.std.proofs.Math.Nat.{mul-le-mul, mul-le-mul_left, div-add-mod, mod-lt}
use Rattle.edge_lanes.specs.Reciprocals.{IsReciprocal}

-- 2^32 as so many times a number, and what is left
pub record Divides (d m r : ℕ) : Type 0 where
  pub whole : m * d + r ≡ 4294967296
  pub some : 0 < r
  pub rest : r ≤ d

pub divides : (d m r : ℕ) → 0 < d → m ≡ 4294967295 / d → r ≡ 4294967296 - m * d → Divides d m r
divides d m r h em er =
    let e : d * (4294967295 / d) + 4294967295 % d ≡ 4294967295 = div-add-mod 4294967295 d in
    let l : 4294967295 % d < d = mod-lt 4294967295 h in
    let f : m * d + 4294967295 % d ≡ 4294967295 = rw em (omega (arith, e)) in
    record { whole = omega (arith, f, er); some = omega (arith, f, er); rest = omega (arith, f, er, l) }

-- what the code computes fits 64 bits
pub record Fit (d m r : ℕ) : Type 0 where
  pub first : r * m < 2 ^ 32
  pub square : r * r < 2 ^ 32
  pub second : r * r * m < 2 ^ 64
  pub product : m * d ≤ 4294967296

pub fit : (d m r : ℕ) → d < 2 ^ 16 → Divides d m r → Fit d m r
fit d m r small h =
    let w = h.whole in let s = h.some in let rest = h.rest in
    let a : m * r ≤ m * d = mul-le-mul_left m rest in
    let b : r ≤ 65535 = omega (arith, rest, small) in
    let c : r * r ≤ 65535 * 65535 = mul-le-mul b b in
    let e : r * (m * r) ≤ r * 4294967296 = mul-le-mul_left r (omega (arith, a, w)) in
    record {
      first = omega (arith, a, w, s);
      square = omega (arith, c);
      second = omega (arith, e, rest, small);
      product = omega (arith, w);
    }

cube : (r : ℕ) → 0 < r → 0 < r * r * r
cube zero h = absurd (omega (arith, h))
cube (suc r) h = omega arith

-- and is the reciprocal, at most two too small
pub record IsShort (d v : ℕ) : Type 0 where
  pub is_reciprocal : IsReciprocal d v
  pub fits : v < 2 ^ 64

pub is_short : (d m r v : ℕ) → 0 < d → d < 2 ^ 16 → Divides d m r → v ≡ (m * 4294967296 + r * m) + r * r * m / 4294967296 → IsShort d v
is_short d m r v p small h ev =
    let w = h.whole in let some = h.some in let rest = h.rest in
    let t = r * r * m / 4294967296 in
    let once : r * (m * d + r) ≡ r * 4294967296 = ap (λ x. r * x) w in
    let twice : (r * r) * (m * d + r) ≡ (r * r) * 4294967296 = ap (λ x. (r * r) * x) w in
    let low : d * (t * 4294967296) ≤ d * (r * r * m) = mul-le-mul_left d (omega arith) in
    let high : d * (r * r * m + 1) ≤ d * ((t + 1) * 4294967296) = mul-le-mul_left d (omega arith) in
    let positive = cube r some in
    let short : r ≤ 65536 = omega (arith, rest, small) in
    let square : r * r ≤ 65536 * 65536 = mul-le-mul short short in
    let third : r * (r * r) ≤ d * (65536 * 65536) = mul-le-mul rest square in
    let less : t * d < r * r = below t low twice positive in
    let more : r * r ≤ t * d + 2 * d = above t high twice third p in
    record {
      is_reciprocal = record {
        positive = p;
        least = rw ev (least t once w less);
        most = rw ev (most t once w more);
      };
      fits = rw ev (bounded t (strict t once w less) p);
    }
  where
    below : (t : ℕ) → d * (t * 4294967296) ≤ d * (r * r * m) → (r * r) * (m * d + r) ≡ (r * r) * 4294967296 → 0 < r * r * r → t * d < r * r
    below t low twice positive = omega (arith, low, twice, positive)

    above : (t : ℕ) → d * (r * r * m + 1) ≤ d * ((t + 1) * 4294967296) → (r * r) * (m * d + r) ≡ (r * r) * 4294967296 → r * (r * r) ≤ d * (65536 * 65536) → 0 < d → r * r ≤ t * d + 2 * d
    above t high twice third p = omega (arith, high, twice, third, p)

    least : (t : ℕ) → r * (m * d + r) ≡ r * 4294967296 → m * d + r ≡ 4294967296 → t * d < r * r → ((m * 4294967296 + r * m) + t) * d ≤ 2 ^ 64
    least t once w less = omega (arith, once, w, less)

    strict : (t : ℕ) → r * (m * d + r) ≡ r * 4294967296 → m * d + r ≡ 4294967296 → t * d < r * r → ((m * 4294967296 + r * m) + t) * d < 2 ^ 64
    strict t once w less = omega (arith, once, w, less)

    most : (t : ℕ) → r * (m * d + r) ≡ r * 4294967296 → m * d + r ≡ 4294967296 → r * r ≤ t * d + 2 * d → 2 ^ 64 ≤ (((m * 4294967296 + r * m) + t) + 2) * d
    most t once w more = omega (arith, once, w, more)

    bounded : (t : ℕ) → ((m * 4294967296 + r * m) + t) * d < 2 ^ 64 → 0 < d → (m * 4294967296 + r * m) + t < 2 ^ 64
    bounded t l p = let k : ((m * 4294967296 + r * m) + t) * 1 ≤ ((m * 4294967296 + r * m) + t) * d = mul-le-mul_left ((m * 4294967296 + r * m) + t) p in omega (arith, k, l)

-- by a division of 64 bits
pub is_long : (d v : ℕ) → 0 < d → v ≡ 18446744073709551615 / d → IsReciprocal d v
is_long d v h ev =
    let e : d * (18446744073709551615 / d) + 18446744073709551615 % d ≡ 18446744073709551615 = div-add-mod 18446744073709551615 d in
    let l : 18446744073709551615 % d < d = mod-lt 18446744073709551615 h in
    let f : v * d + 18446744073709551615 % d ≡ 18446744073709551615 = rw ev (omega (arith, e)) in
    record { positive = h; least = omega (arith, f); most = omega (arith, f, l) }

-- a quotient by the reciprocal: never too great, and at most one too small
pub record IsEstimate (n d g : ℕ) : Type 0 where
  pub least : g * d ≤ n
  pub most : n < (g + 2) * d

pub estimate : (n d v a b g : ℕ) → n ≤ 2 ^ 62 → IsReciprocal d v → a ≡ n → b ≡ v → g ≡ a * b / 18446744073709551616 → IsEstimate n d g
estimate n d v a b g small h ea eb eg =
    let l = h.least in let u = h.most in let p = h.positive in
    let is : g ≡ n * v / 18446744073709551616 = rw (ea, eb) at eg in
    let low : d * (g * 18446744073709551616) ≤ d * (n * v) = mul-le-mul_left d (omega (arith, is)) in
    let high : d * (n * v + 1) ≤ d * ((g + 1) * 18446744073709551616) = mul-le-mul_left d (omega (arith, is)) in
    let k : n * (v * d) ≤ n * 18446744073709551616 = mul-le-mul_left n l in
    let m : n * 18446744073709551616 ≤ n * ((v + 2) * d) = mul-le-mul_left n u in
    let few : d * n ≤ d * 4611686018427387904 = mul-le-mul_left d small in
    record { least = omega (arith, low, k); most = omega (arith, high, m, few, p) }

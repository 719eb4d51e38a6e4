-- Reciprocals less their error, and what is made of them.
use Rattle.std.proofs.Common.{◌≡◌, ℕ, ◌+◌, ◌-◌, ◌*◌, ◌/◌, ◌^◌, ◌<◌, ◌≤◌, List, length, get_or, sym, ap, ◌∙◌, subst, arith, w32}
use Rattle.std.specs.Int.{leading_zeros}
use Rattle.std.proofs.Math.Nat.{pow-le-pow_right}
use Rattle.std.proofs.lemmas.Nat.{mul-le, pow-add}
use Rattle.lane_numbers.specs.Reciprocals.{IsReciprocal}
use Rattle.point_lanes.specs.Divisors.{IsDivisor, AreDivisors}

-- a reciprocal is at least 8: it is 2^63 over less than 2^32
pub at_least : (d power number r : ℕ) → IsReciprocal d power number r → 8 ≤ r
at_least d power number r h =
    let low : 9223372036854775808 < number * r + 17179869184 = h.near.low in
    let most : number < 4294967296 = h.most in
    not_less 8 r (λ (l : r < 8).
    let m : number * r ≤ 4294967296 * 8 = mul-le number r 4294967296 8 (omega (arith, most)) (omega (arith, l)) in
    omega (arith, low, m))
  where
    not_less : (a b : ℕ) → (b < a → 1 ≤ 0) → a ≤ b
    not_less a b h = grind (arith, h)

-- a power of two that makes 32 digits of a number that has at most 25
pub whole_part : (z w : ℕ) → w ≤ 16777216 → 2147483648 ≤ w * 2 ^ z → 128 * (2 ^ z / 128) ≡ 2 ^ z
whole_part z w most least = by (shift z (beyond z least))
  where
    -- at least 7 digits are wanting
    beyond : (z : ℕ) → 2147483648 ≤ w * 2 ^ z → 7 ≤ z
    beyond z least = not_less 7 z (λ (l : z < 7).
        let few : z ≤ 6 = omega (arith, l) in
        let p : 2 ^ z ≤ 2 ^ 6 = pow-le-pow_right (omega arith) few in
        let m : w * 2 ^ z ≤ 16777216 * 64 = mul-le w (2 ^ z) 16777216 64 most p in
        omega (arith, least, m))
      where
        not_less : (a b : ℕ) → (b < a → 1 ≤ 0) → a ≤ b
        not_less a b h = grind (arith, h)

    shift : (z : ℕ) → 7 ≤ z → 2 ^ z ≡ 128 * 2 ^ (z - 7)
    shift z le = let e : z ≡ 7 + (z - 7) = omega (arith, le) in ap (λ (k : ℕ). 2 ^ k) e ∙ pow-add 2 7 (z - 7)

    by : 2 ^ z ≡ 128 * 2 ^ (z - 7) → 128 * (2 ^ z / 128) ≡ 2 ^ z
    by e = omega (arith, e)

pub divisor_is : (d power number r low : ℕ) → IsReciprocal d power number r → 1 ≤ d → d ≤ 16777216 → low ≡ r - 8 → IsDivisor d power low
divisor_is d power number r low h least most is =
    let product : number ≡ d * power = h.number_is in
    let little : 8 ≤ r = at_least d power number r h in
    let more : low + 8 ≡ r = omega (arith, is, little) in
    let split : number * r ≡ number * low + number * 8 = ap (λ (x : ℕ). number * x) (sym more) ∙ spread low in
    let under : number * low ≤ 9223372036854775808 = under_of (number * r) (number * low) split h.near.high h.least in
    let over : 9223372036854775808 < number * low + 51539607552 = over_of (number * r) (number * low) split h.near.low h.most in
    record {
      least = least;
      most = most;
      whole = subst (λ (x : ℕ). 128 * (x / 128) ≡ x) (sym h.power_is) (whole_part (leading_zeros w32 d) d most (subst (λ (x : ℕ). 2147483648 ≤ d * x) h.power_is (subst (λ (x : ℕ). 2147483648 ≤ x) product h.least)));
      product_least = subst (λ (x : ℕ). 2147483648 ≤ x) product h.least;
      product_most = subst (λ (x : ℕ). x < 4294967296) product h.most;
      low = subst (λ (x : ℕ). x * low ≤ 9223372036854775808) product under;
      high = subst (λ (x : ℕ). 9223372036854775808 < x * low + 51539607552) product over;
    }
  where
    spread : (low : ℕ) → number * (low + 8) ≡ number * low + number * 8
    spread low = omega arith

    under_of : (nr nl : ℕ) → nr ≡ nl + number * 8 → nr < 9223372036854775808 + 17179869184 → 2147483648 ≤ number → nl ≤ 9223372036854775808
    under_of nr nl e h l = omega (arith, e, h, l)

    over_of : (nr nl : ℕ) → nr ≡ nl + number * 8 → 9223372036854775808 < nr + 17179869184 → number < 4294967296 → 9223372036854775808 < nl + 51539607552
    over_of nr nl e h l = omega (arith, e, h, l)

pub are_divisors : (ds ps ns rs ls : List ℕ) → length ds ≡ 8 → length ps ≡ 8 → length ls ≡ 8 → ((j : ℕ) → j < 8 → 1 ≤ get_or ds j 0) → ((j : ℕ) → j < 8 → get_or ds j 0 ≤ 16777216) →
    ((j : ℕ) → j < 8 → IsReciprocal (get_or ds j 0) (get_or ps j 0) (get_or ns j 0) (get_or rs j 0)) → ((j : ℕ) → j < 8 → get_or ls j 0 ≡ get_or rs j 0 - 8) → AreDivisors ds ps ls
are_divisors ds ps ns rs ls ed ep el least most are low = record {
  eight = ed;
  eight_powers = ep;
  eight_reciprocals = el;
  each = λ j lt. divisor_is (get_or ds j 0) (get_or ps j 0) (get_or ns j 0) (get_or rs j 0) (get_or ls j 0) (are j lt) (least j lt) (most j lt) (low j lt);
}

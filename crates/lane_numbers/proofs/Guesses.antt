-- What the table of reciprocals holds.
use Rattle.std.proofs.Common.{◌≡◌, ℕ, zero, suc, ◌+◌, ◌-◌, ◌*◌, ◌/◌, ◌%◌, ◌<◌, ◌≤◌, Bool, true, ◌&&◌, T, eqb, eqb→eq, List, [], ◌∷◌, length, get_or, ap, ◌∙◌, arith}
use Rattle.std.proofs.Math.Nat.{mul-le-mul_left, div-add-mod, mod-lt}
use Rattle.lane_numbers.specs.Reciprocals.{IsNear}
use Rattle.lane_numbers.specs.declared.table.TheConstants.{TABLE}
use lib.Ieee.Fits.{and_l, and_r}

-- whether numbers are 2^41 over odd numbers, from one on
abbrev are_quotients : ℕ → List ℕ → Bool
are_quotients c [] = true
are_quotients c (t ∷ ts) = eqb t (2199023255552 / c) && are_quotients (c + 2) ts

quotient_at : (c : ℕ) (ts : List ℕ) → T (are_quotients c ts) → (i : ℕ) → i < length ts → get_or ts i 0 ≡ 2199023255552 / (c + 2 * i)
quotient_at c [] h i lt = absurd (omega (arith, lt))
quotient_at c (t ∷ ts) h zero lt = let e : c ≡ c + 2 * 0 = omega arith in eqb→eq _ _ (and_l _ _ h) ∙ ap (λ (d : ℕ). 2199023255552 / d) e
quotient_at c (t ∷ ts) h (suc i) lt =
    let e : c + 2 + 2 * i ≡ c + 2 * suc i = omega arith in
    quotient_at (c + 2) ts (and_r (eqb t (2199023255552 / c)) _ h) i (omega (arith, lt)) ∙ ap (λ (d : ℕ). 2199023255552 / d) e

table_at : (i : ℕ) → i < 256 → get_or TABLE i 0 ≡ 2199023255552 / (513 + 2 * i)
table_at i lt = quotient_at 513 TABLE tt i lt

-- a quotient by the double of a number's middle, in parts of 2^22
pub record IsGuess (n t : ℕ) : Type 0 where
  pub near : IsNear 18014402804449280 n t
  pub within : t ≤ 4290772992

near_middle : (n t c : ℕ) → 513 ≤ c → c ≤ 1023 → c * 8388608 ≤ 2 * n + 8388608 → 2 * n ≤ c * 8388608 + 8388608 → t ≡ 2199023255552 / c → IsGuess n t
near_middle n t c least most down up is =
    let whole : c * (2199023255552 / c) + 2199023255552 % c ≡ 2199023255552 = div-add-mod 2199023255552 c in
    let rest : 2199023255552 % c < c = mod-lt 2199023255552 (omega (arith, least)) in
    let same : c * t ≡ c * (2199023255552 / c) = ap (λ (x : ℕ). c * x) is in
    let a : t * (2 * n) ≤ t * (c * 8388608 + 8388608) = mul-le-mul_left t up in
    let b : t * (c * 8388608) ≤ t * (2 * n + 8388608) = mul-le-mul_left t down in
    let k : t * 513 ≤ t * c = mul-le-mul_left t least in
    let l = low (c * (2199023255552 / c)) (2199023255552 % c) whole same in
    let h = high (c * (2199023255552 / c)) (2199023255552 % c) whole rest same in
    let within = bounded (t * c) k l in
    let above = near_above (t * n) (t * c) (first a) l within in
    let below = near_below (t * n) (t * c) (second b) h within in
    record { near = record { low = omega (arith, below); high = omega (arith, above) }; within = within }
  where
    first : t * (2 * n) ≤ t * (c * 8388608 + 8388608) → 2 * (t * n) ≤ t * c * 8388608 + t * 8388608
    first a = omega (arith, a)

    second : t * (c * 8388608) ≤ t * (2 * n + 8388608) → t * c * 8388608 ≤ 2 * (t * n) + t * 8388608
    second b = omega (arith, b)

    low : (p r : ℕ) → p + r ≡ 2199023255552 → c * t ≡ p → t * c ≤ 2199023255552
    low p r w s = omega (arith, w, s)

    high : (p r : ℕ) → p + r ≡ 2199023255552 → r < c → c * t ≡ p → 2199023255552 < t * c + c
    high p r w l s = omega (arith, w, l, s)

    bounded : (tc : ℕ) → t * 513 ≤ tc → tc ≤ 2199023255552 → t ≤ 4290772992
    bounded tc k l = omega (arith, k, l)

    near_above : (tn tc : ℕ) → 2 * tn ≤ tc * 8388608 + t * 8388608 → tc ≤ 2199023255552 → t ≤ 4290772992 → tn < 9241386439659225088
    near_above tn tc a l w = omega (arith, a, l, w)

    near_below : (tn tc : ℕ) → tc * 8388608 ≤ 2 * tn + t * 8388608 → 2199023255552 < tc + c → t ≤ 4290772992 → 9223372036854775808 < tn + 18014402804449280
    near_below tn tc b h w = omega (arith, b, h, w, most)

-- the guess for a number of 32 digits
pub guess_is : (n t : ℕ) → 2147483648 ≤ n → n < 4294967296 → t ≡ get_or TABLE (n / 8388608 - 256) 0 → IsGuess n t
guess_is n t least most is =
    near_middle n t (513 + 2 * (n / 8388608 - 256)) (omega arith) (omega (arith, most)) (omega (arith, least)) (omega (arith, most, least))
    (is ∙ table_at (n / 8388608 - 256) (omega (arith, most)))

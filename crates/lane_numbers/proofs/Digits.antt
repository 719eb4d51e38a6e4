-- The digits of a number, and the number that they spell.
use Rattle.std.proofs.Common.{◌≡◌, ℕ, zero, suc, ◌+◌, ◌*◌, ◌/◌, ◌%◌, ◌^◌, ◌<◌, ◌≤◌, List, [], ◌∷◌, length, sym, ap, ◌∙◌, subst, arith}
use Rattle.std.specs.Simd.Lanes.{Each1, number_l, digits_l}
use Rattle.std.proofs.Math.Nat.{div-add-mod, mul-le-mul_left, pow-suc, pow-zero}
use Rattle.std.proofs.lemmas.Nat.{div_below}

-- as many digits as a number has spell it
pub spelled : (p n x : ℕ) → 0 < p → x < p ^ n → number_l p (digits_l p n x) ≡ x
spelled p zero x h lt = let one = pow-zero p in omega (arith, lt, one)
spelled p (suc n) x h lt =
    let below : x < p ^ n * p = subst (λ (t : ℕ). x < t) (pow-suc p n) lt in
    let rest : number_l p (digits_l p n (x / p)) ≡ x / p = spelled p n (x / p) h (div_below x p (p ^ n) h below) in
    let whole : p * (x / p) + x % p ≡ x = div-add-mod x p in
    ap (λ (r : ℕ). x % p + p * r) rest ∙ omega (arith, whole)

-- what digits spell has no more of them
pub spelled_below : (p : ℕ) (xs : List ℕ) → 0 < p → Each1 (λ x. x < p) xs → number_l p xs < p ^ length xs
spelled_below p [] h each = let one = pow-zero p in omega (arith, one)
spelled_below p (x ∷ xs) h each =
    let rest = spelled_below p xs h each.1 in
    let small : x < p = each.0 in
    let m : p * (number_l p xs + 1) ≤ p * p ^ length xs = mul-le-mul_left p (omega (arith, rest)) in
    subst (λ (t : ℕ). x + p * number_l p xs < t) (sym (pow-suc p (length xs))) (within (number_l p xs) (p ^ length xs) m small)
  where
    within : (r t : ℕ) → p * (r + 1) ≤ p * t → x < p → x + p * r < t * p
    within r t m small = omega (arith, m, small)

-- The near distance with its leading bit at bit 30.
use Rattle.std.proofs.Common.{◌≡◌, ℕ, ℤ, pos, negsuc, suc, zero, ◌+◌, ◌*◌, ◌-◌, ◌<◌, ◌≤◌, ◌^◌, ◌*ℤ◌, ◌≤ℤ◌, ◌<ℤ◌, ◌∙◌, sym, ap, subst, ◌⊎◌, inl, inr, arith}
use lib.Count.{count_leading_zeros}
use Rattle.std.proofs.lemmas.Int.{ints}
use Rattle.std.proofs.lemmas.Nat.{pow_pos, pow-add, mul-le, shl_below, leading_top}
use Rattle.std.proofs.lemmas.Bool.{cases_lt}
use Rattle.std.proofs.Math.Nat.{pow-le-pow_right}
use Rattle.exact_clip.proofs.Products.{pos-mul}

-- a number of 24 bits at most, shifted up by what lacks
pub record IsLed (n up : ℕ) : Type 0 where
  pub least : 7 ≤ up
  pub most : up ≤ 30
  pub above : 2 ^ 30 ≤ n * 2 ^ up
  pub below : n * 2 ^ up < 2 ^ 31

below_24-by : (j : ℕ) → (j < 24) ⊎ (24 ≤ j) → 2 ^ j < 2 ^ 24 → j < 24
below_24-by j (inl l) h = l
below_24-by j (inr g) h =
    let two : 0 < 2 = omega arith in
    let m = pow-le-pow_right {n = 2} two {i = 24} {j = j} g in
    absurd (omega (arith, m, h))

led_by : (n j up : ℕ) → j < 24 → j + up ≡ 30 → 2 ^ j ≤ n → n < 2 ^ suc j → IsLed n up
led_by n j up small e h l =
    let p : 2 ^ j * 2 ^ up ≡ 2 ^ 30 = sym (pow-add 2 j up) ∙ ap (λ (t : ℕ). 2 ^ t) e in
    let a = mul-le (2 ^ j) (2 ^ up) n (2 ^ up) h (omega arith) in
    let s : suc j + up ≡ 31 = omega (arith, e) in
    let b : n * 2 ^ up < 2 ^ 31 = subst (λ (t : ℕ). n * 2 ^ up < 2 ^ t) s (shl_below n (suc j) up l) in
    record { least = omega (arith, e, small); most = omega (arith, e); above = omega (arith, p, a); below = b }

pub led : (n : ℕ) → 0 < n → n < 2 ^ 24 → IsLed n (count_leading_zeros 32 n - 1)
led n positive small =
    let t = leading_top 32 n positive (omega (arith, small)) in
    let power_small : 2 ^ t.0 < 2 ^ 24 = omega (arith, t.2, small) in
    let j_small = below_24-by t.0 (cases_lt t.0 24) power_small in
    led_by n t.0 (count_leading_zeros 32 n - 1) j_small (omega (arith, t.1, j_small)) t.2 t.3

-- the same number, whatever is shifted
pub raised : (s d up e p : ℕ) → d ≡ s * 2 ^ up → e + up ≡ p → d * 2 ^ e ≡ s * 2 ^ p
raised s d up e p ed ee =
    let a : (s * 2 ^ up) * 2 ^ e ≡ s * (2 ^ e * 2 ^ up) = omega arith in
    ap (λ (t : ℕ). t * 2 ^ e) ed ∙ a ∙ ap (λ (t : ℕ). s * t) (sym (pow-add 2 e up) ∙ ap (λ (t : ℕ). 2 ^ t) ee)

pub near_is : (whole m : ℤ) (s p k d e : ℕ) → whole ≡ m *ℤ pos (2 ^ p) → d * 2 ^ e ≡ s * 2 ^ (p + k) → m ≡ pos s → pos d *ℤ pos (2 ^ e) ≡ whole *ℤ pos (2 ^ k)
near_is whole m s p k d e ew h em =
    let a : (s * 2 ^ p) * 2 ^ k ≡ s * (2 ^ p * 2 ^ k) = omega arith in
    let n : d * 2 ^ e ≡ (s * 2 ^ p) * 2 ^ k = h ∙ ap (λ (t : ℕ). s * t) (pow-add 2 p k) ∙ sym a in
    let w : whole ≡ pos (s * 2 ^ p) = ew ∙ ap (λ (z : ℤ). z *ℤ pos (2 ^ p)) em ∙ pos-mul s (2 ^ p) in
    pos-mul d (2 ^ e) ∙ ap pos n ∙ sym (pos-mul (s * 2 ^ p) (2 ^ k)) ∙ ap (λ (z : ℤ). z *ℤ pos (2 ^ k)) (sym w)

-- a float is positive where its mantissa is
pub above : (whole m : ℤ) (p : ℕ) → whole ≡ m *ℤ pos (2 ^ p) → pos 0 <ℤ m → pos 0 <ℤ whole
above whole (pos (suc n)) p e h = let w = pow_pos p in let m = mul-le 1 1 (suc n) (2 ^ p) (omega arith) (omega (arith, w)) in omega (arith, ints, e, m)
above whole (pos zero) p e h = absurd (omega (arith, ints, h))
above whole (negsuc n) p e h = absurd (omega (arith, ints, h))

pub not_above : (whole m : ℤ) (p : ℕ) → whole ≡ m *ℤ pos (2 ^ p) → m ≤ℤ pos 0 → whole ≤ℤ pos 0
not_above whole (pos zero) p e h = omega (arith, ints, e)
not_above whole (pos (suc n)) p e h = absurd (omega (arith, ints, h))
not_above whole (negsuc n) p e h = omega (arith, ints, e)

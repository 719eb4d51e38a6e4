-- A corner is certified by the tests that the code made.
use Rattle.std.proofs.Common.{◌≡◌, ℕ, ℤ, pos, ◌<◌, ◌≤◌, ◌*◌, ◌/◌, ◌^◌, ◌*ℤ◌, ◌≤ℤ◌, min, true, false, negsuc, Option, IsSome, Some, None, arith, sym}
use lib.Signed.{lt_z}
use Rattle.std.proofs.lemmas.Int.{ints}
use Rattle.std.proofs.lemmas.Nat.{div-add-mod', le-div, mul-le}
use Rattle.std.proofs.Math.Nat.{mul-le-mul_right}
use Rattle.cull_base.specs.Piece.{Point}
use Rattle.pixel_forms.specs.Forms.{least_at, most_at}
use Rattle.pixel_forms.specs.Certified.{divisor_of, IsSeen, IsAtMost, IsCertified}
use Rattle.pixel_forms.specs.declared.nearness_form.NearnessForm.{NearnessForm}
use Rattle.pixel_forms.specs.declared.forms.Forms.{Forms}
use Rattle.pixel_forms.specs.declared.forms.Half.{Half}

le_as : (a b c : ℤ) → b ≡ c → a ≤ℤ b → a ≤ℤ c
le_as a b c e h = omega (arith, ints, e, h)

as_le : (a b c : ℤ) → a ≡ b → a ≤ℤ c → b ≤ℤ c
as_le a b c e h = omega (arith, ints, e, h)

-- by a test that failed
pub not_under : (a b : ℤ) → lt_z a b ≡ false → b ≤ℤ a
not_under a b h = grind (arith, ints)

-- by a test that held
pub outside : (l m : ℤ) → l ≡ m → lt_z l (pos 0) ≡ true → pos 0 ≤ℤ m → ⊥
outside l m e h k = below l h (omega (arith, ints, e, k))
  where
    below : (l : ℤ) → lt_z l (pos 0) ≡ true → pos 0 ≤ℤ l → ⊥
    below (pos n) h k = grind (arith, ints)
    below (negsuc n) h k = omega (arith, ints, k)

pub none_some : (o : Option ℕ) → o ≡ None → IsSome o → ⊥
none_some None e h = cc
none_some (Some n) e h = cc

pub seen-by : (n : NearnessForm) (p : Point) (l : ℤ) → l ≡ least_at n.form p → pos 0 ≤ℤ l → most_at n.form p ≤ℤ n.limit → IsSeen n p
seen-by n p l el hl hm = record { front = le_as (pos 0) l (least_at n.form p) el hl; uncut = hm }

quotient-steps : (q quotient steps top d k size : ℕ) → q ≡ min quotient top → quotient ≡ steps / d → steps * k ≤ size → q * (d * k) ≤ size
quotient-steps q quotient steps top d k size eq es h =
    let le : q ≤ quotient = omega (arith, eq) in
    let a : q * (d * k) ≤ quotient * (d * k) = mul-le-mul_right (d * k) le in
    let e : quotient * d ≤ steps = whole quotient steps d es in
    let b : (quotient * d) * k ≤ steps * k = mul-le-mul_right k e in
    omega (arith, a, b, h)
  where
    whole : (q n d : ℕ) → q ≡ n / d → q * d ≤ n
    whole q n d e = let r = div-add-mod' n d in rw e (omega (arith, r))

pub at-most-by : (n : NearnessForm) (p : Point) (q quotient steps top size nearest : ℕ) (l : ℤ) → l ≡ least_at n.form p → q ≡ min quotient top → quotient ≡ steps / n.divisor → steps * 2 ^ n.power ≤ size
    → pos size ≡ pos nearest *ℤ l → IsAtMost nearest n p q
at-most-by n p q quotient steps top size nearest l el eq es h e =
    let k = quotient-steps q quotient steps top n.divisor (2 ^ n.power) size eq es h in
    rw (← el) (rw (← e) (omega (arith, ints, k)))

le_from : (a b : ℕ) (c : ℤ) → c ≡ pos b → pos a ≤ℤ c → a ≤ b
le_from a b c e h = omega (arith, ints, e, h)

-- no nearness up to the top that the plane says too is greater
pub greatest-by : (n : NearnessForm) (p : Point) (q quotient steps top size nearest r : ℕ) (l : ℤ) → l ≡ least_at n.form p → q ≡ min quotient top → quotient ≡ steps / n.divisor
    → ((m : ℕ) → m ≤ 2 ^ 63 → m * 2 ^ n.power ≤ size → m ≤ steps) → pos size ≡ pos nearest *ℤ l → n.divisor ≤ 2 ^ 38 → 0 < n.divisor → r ≤ top → top ≤ 16777215 → IsAtMost nearest n p r → r ≤ q
greatest-by n p q quotient steps top size nearest r l el eq es most e small positive le held h =
    let a : r * (n.divisor * 2 ^ n.power) ≤ size = le_from (r * (n.divisor * 2 ^ n.power)) size (pos nearest *ℤ least_at n.form p) (sym (rw el at e)) h in
    let b : (r * n.divisor) * 2 ^ n.power ≤ size = omega (arith, a) in
    let k : r * n.divisor ≤ 16777215 * 2 ^ 38 = mul-le r n.divisor 16777215 (2 ^ 38) (omega (arith, le, held)) small in
    let c : r * n.divisor ≤ steps = most (r * n.divisor) (omega (arith, k)) b in
    let d : r ≤ steps / n.divisor = le-div r steps n.divisor positive c in
    omega (arith, eq, es, d, le)

at-most_less : (nearest : ℕ) (n : NearnessForm) (p : Point) (q r : ℕ) → q ≤ r → IsAtMost nearest n p r → IsAtMost nearest n p q
at-most_less nearest n p q r le h =
    let k : q * divisor_of n ≤ r * divisor_of n = mul-le-mul_right (divisor_of n) le in
    less (q * divisor_of n) (r * divisor_of n) (pos nearest *ℤ least_at n.form p) k h
  where
    less : (a b : ℕ) (c : ℤ) → a ≤ b → pos b ≤ℤ c → pos a ≤ℤ c
    less a b c h i = omega (arith, ints, h, i)

pub certified-alone : (nearest : ℕ) (forms : Forms) (p : Point) (q : ℕ) (a b c : ℤ) → a ≡ least_at forms.first p → b ≡ least_at forms.second p → c ≡ least_at forms.third p → pos 0 ≤ℤ a → pos 0 ≤ℤ b → pos 0 ≤ℤ c
    → IsSeen forms.plane p → IsAtMost nearest forms.plane p q → forms.other ≡ None → IsCertified nearest forms p q
certified-alone nearest forms p q a b c ea eb ec ha hb hc seen most e = record {
  inside = record {
    first = le_as (pos 0) a (least_at forms.first p) ea ha;
    second = le_as (pos 0) b (least_at forms.second p) eb hb;
    third = le_as (pos 0) c (least_at forms.third p) ec hc;
    plane = seen;
    other = rw e tt;
  };
  plane = most;
  other = rw e tt;
}

pub certified-both : (nearest : ℕ) (forms : Forms) (h : Half) (p : Point) (q r s : ℕ) (a b c : ℤ) → a ≡ least_at forms.first p → b ≡ least_at forms.second p → c ≡ least_at forms.third p → pos 0 ≤ℤ a → pos 0 ≤ℤ b → pos 0 ≤ℤ c
    → IsSeen forms.plane p → IsAtMost nearest forms.plane p r → forms.other ≡ Some h
    → pos 0 ≤ℤ least_at h.edge p → IsSeen h.plane p → IsAtMost nearest h.plane p s → q ≡ min r s → IsCertified nearest forms p q
certified-both nearest forms h p q r s a b c ea eb ec ha hb hc seen most e edge seen-other most-other eq = record {
  inside = record {
    first = le_as (pos 0) a (least_at forms.first p) ea ha;
    second = le_as (pos 0) b (least_at forms.second p) eb hb;
    third = le_as (pos 0) c (least_at forms.third p) ec hc;
    plane = seen;
    other = rw e (edge, seen-other);
  };
  plane = at-most_less nearest forms.plane p q r (omega (arith, eq)) most;
  other = rw e (at-most_less nearest h.plane p q s (omega (arith, eq)) most-other);
}

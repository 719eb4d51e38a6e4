-- A subtile that an edge rejects or accepts whole.
use Rattle.std.proofs.Common.{◌≡◌, ℕ, ℤ, pos, negsuc, suc, ◌/◌, ◌%◌, ◌-◌, ◌^◌, ◌<◌, ◌≤◌, ◌+ℤ◌, ◌*ℤ◌, ◌≤ℤ◌, ◌<ℤ◌, arith, refl, ap, Bool, true, false, ◌&&◌, ◌⊎◌, inl, inr}
use Rattle.std.specs.Int.{int_min, int_max}
use Rattle.std.specs.Simd.Lanes.{mask_l}
use Rattle.std.proofs.Math.Nat.{mul-le-mul_left}
use Rattle.std.proofs.lemmas.Int.{ints, clamps}
use Rattle.std.proofs.lemmas.Bool.Decides.{nat_tests}
use Rattle.cull_base.specs.Piece.{each_sample}
use Rattle.cull_base.proofs.Masks.{each_sample-same}
use Rattle.edge_lanes.specs.Lanes.{is_not_negative, highest_of, lowest_of}
use Rattle.edge_lanes.specs.Lines.{Line, Lines, inside_from, inside_all}

-- a step taken up to n times
pub step_most : (s : ℤ) (n k : ℕ) → k ≤ n → (s *ℤ pos k) ≤ℤ int_max (s *ℤ pos n) (pos 0)
step_most (pos s) n k l = let p = mul-le-mul_left s l in omega (arith, ints, clamps, p)
step_most (negsuc s) n k l = omega (arith, ints, clamps)

pub step_least : (s : ℤ) (n k : ℕ) → k ≤ n → int_min (s *ℤ pos n) (pos 0) ≤ℤ (s *ℤ pos k)
step_least (pos s) n k l = omega (arith, ints, clamps)
step_least (negsuc s) n k l = let p = mul-le-mul_left (suc s) l in omega (arith, ints, clamps, p)

negative : (v : ℤ) → v <ℤ pos 0 → is_not_negative v ≡ false
negative (pos n) h = absurd (omega (arith, ints, h))
negative (negsuc n) h = refl

pub not_negative : (v : ℤ) → pos 0 ≤ℤ v → is_not_negative v ≡ true
not_negative (pos n) h = grind (arith, nat_tests)
not_negative (negsuc n) h = absurd (omega (arith, ints, h))

rejects : (e : Line) (s : ℤ) (k : ℕ) → k < 32 → (s +ℤ highest_of e.column e.row) <ℤ pos 0 → inside_from e s k ≡ false
rejects e s k l h =
    let p = step_most e.column 7 (k % 8) (omega arith) in let q = step_most e.row 3 (k / 8) (omega arith) in
    negative _ (below s (e.row *ℤ pos (k / 8)) (e.column *ℤ pos (k % 8)) _ _ q p h)
  where
    below : (s a b x y : ℤ) → a ≤ℤ x → b ≤ℤ y → (s +ℤ (y +ℤ x)) <ℤ pos 0 → ((s +ℤ a) +ℤ b) <ℤ pos 0
    below s a b x y p q h = omega (arith, ints)

accepts : (e : Line) (s : ℤ) (k : ℕ) → k < 32 → pos 0 ≤ℤ (s +ℤ lowest_of e.column e.row) → inside_from e s k ≡ true
accepts e s k l h =
    let p = step_least e.column 7 (k % 8) (omega arith) in let q = step_least e.row 3 (k / 8) (omega arith) in
    not_negative _ (above s (e.row *ℤ pos (k / 8)) (e.column *ℤ pos (k % 8)) _ _ q p h)
  where
    above : (s a b x y : ℤ) → x ≤ℤ a → y ≤ℤ b → pos 0 ≤ℤ (s +ℤ (y +ℤ x)) → pos 0 ≤ℤ ((s +ℤ a) +ℤ b)
    above s a b x y p q h = omega (arith, ints)

-- one answer at each sample
mask_l-none : (p : ℕ → Bool) → ((k : ℕ) → k < 32 → p k ≡ false) → mask_l (each_sample p) ≡ 0
unfolding each_sample
mask_l-none p h = ap mask_l (each_sample-same p (λ k. false) h)

mask_l-all : (p : ℕ → Bool) → ((k : ℕ) → k < 32 → p k ≡ true) → mask_l (each_sample p) ≡ 2 ^ 32 - 1
unfolding each_sample
mask_l-all p h = ap mask_l (each_sample-same p (λ k. true) h)

pub any_false : (a b c : Bool) → (a ≡ false) ⊎ ((b ≡ false) ⊎ (c ≡ false)) → (a && (b && c)) ≡ false
any_false false b c h = refl
any_false true false c h = refl
any_false true true c (inl e) = cc
any_false true true c (inr (inl e)) = cc
any_false true true c (inr (inr e)) = e

abbrev pub Rejects : Line → ℤ → Type 0
Rejects e s = (s +ℤ highest_of e.column e.row) <ℤ pos 0

pub rejected : (e : Lines) (s t u : ℤ) → Rejects e.first s ⊎ (Rejects e.second t ⊎ Rejects e.third u) → mask_l (each_sample (inside_all e s t u)) ≡ 0
rejected e s t u h = mask_l-none (inside_all e s t u) (λ k l. any_false _ _ _ (at k l h))
  where
    at : (k : ℕ) → k < 32 → Rejects e.first s ⊎ (Rejects e.second t ⊎ Rejects e.third u) → (inside_from e.first s k ≡ false) ⊎ ((inside_from e.second t k ≡ false) ⊎ (inside_from e.third u k ≡ false))
    at k l (inl x) = inl (rejects e.first s k l x)
    at k l (inr (inl x)) = inr (inl (rejects e.second t k l x))
    at k l (inr (inr x)) = inr (inr (rejects e.third u k l x))

pub accepted : (e : Line) (s : ℤ) → pos 0 ≤ℤ (s +ℤ lowest_of e.column e.row) → mask_l (each_sample (inside_from e s)) ≡ 2 ^ 32 - 1
accepted e s h = mask_l-all (inside_from e s) (λ k l. accepts e s k l h)

abbrev pub Accepts : Line → ℤ → Type 0
Accepts e s = pos 0 ≤ℤ (s +ℤ lowest_of e.column e.row)

pub accepted_by_all : (e : Lines) (s t u : ℤ) → Accepts e.first s → Accepts e.second t → Accepts e.third u → mask_l (each_sample (inside_all e s t u)) ≡ 2 ^ 32 - 1
accepted_by_all e s t u f g h =
    mask_l-all (inside_all e s t u)
    (λ k l. let a = accepts e.first s k l f in let b = accepts e.second t k l g in let c = accepts e.third u k l h in rw (a, b, c) refl)

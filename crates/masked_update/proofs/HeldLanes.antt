-- A place between 0 and a count, as a lane of 32 bits holds it.
use Rattle.std.proofs.Common.{◌≡◌, ◌∙◌, ◌<◌, ◌^◌, ◌≤ℤ◌, ℕ, ℤ, pos, negsuc, nat_abs, ap, sym, subst, refl, arith, Fits, FitsSigned, w32, to_z, of_z}
use Rattle.std.specs.Int.{int_min, int_max}
use Rattle.std.proofs.lemmas.Int.{clamps, ints, to_z-of_z}
use lib.Dec.{T}
use lib.Signed.{non_neg}
use Rattle.cull_base.proofs.SignedLanes.{lesser, greater, lesser_is, greater_is}
use Rattle.masked_update.proofs.SubSpans.{IsBefore}

-- the lane, where a lane beside it holds the count
abbrev held : ℤ → ℤ → ℤ
held v n = to_z w32 (lesser (greater (of_z w32 v) 0) (of_z w32 n))

held_is : (v n : ℤ) (count : ℕ) → FitsSigned w32 v → n ≡ pos count → count < 2 ^ 16 → held v n ≡ int_min (int_max v (pos 0)) (pos count)
held_is v n count fv e lt =
    let fn : FitsSigned w32 n = omega (arith, ints, e, lt) in
    lesser_is (greater (of_z w32 v) 0) (of_z w32 n) (int_max v (pos 0)) (pos count) (greater_is (of_z w32 v) 0 v (pos 0) (to_z-of_z w32 v fv) refl) (to_z-of_z w32 n fn ∙ e)

natural : (v : ℤ) → pos 0 ≤ℤ v → pos (nat_abs v) ≡ v
natural (pos n) h = refl
natural (negsuc n) h = absurd (omega (arith, ints, h))

-- its number without a sign
pub held_before : (v n : ℤ) (count : ℕ) → FitsSigned w32 v → n ≡ pos count → count < 2 ^ 16 → IsBefore count v (nat_abs (held v n))
held_before v n count fv e lt =
    let is = held_is v n count fv e lt in
    ap (λ (t : ℤ). pos (nat_abs t)) is ∙ natural (int_min (int_max v (pos 0)) (pos count)) (omega (arith, ints, clamps))

casts : (v : ℤ) → pos 0 ≤ℤ v → v ≤ℤ pos 65535 → T (non_neg v) × Fits w32 (nat_abs v)
casts (pos n) h l = (tt, record { fits = omega (arith, ints, l) })
casts (negsuc n) h l = absurd (omega (arith, ints, h))

-- it has no sign, and fits
pub held_casts : (v n : ℤ) (count : ℕ) → FitsSigned w32 v → n ≡ pos count → count < 2 ^ 16 → T (non_neg (held v n)) × Fits w32 (nat_abs (held v n))
held_casts v n count fv e lt =
    let is = held_is v n count fv e lt in
    subst (λ (t : ℤ). T (non_neg t) × Fits w32 (nat_abs t)) (sym is) (casts (int_min (int_max v (pos 0)) (pos count)) (omega (arith, ints, clamps)) (omega (arith, ints, clamps, lt)))

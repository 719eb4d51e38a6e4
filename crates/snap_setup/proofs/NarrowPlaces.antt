-- The numerator of a place fits 64 bits where w is at most 2^32, and its quotient is the place.
use Rattle.std.proofs.Common.{◌≡◌, ◌≤◌, ◌^◌, ◌*ℤ◌, ◌+ℤ◌, ◌≤ℤ◌, ℕ, ℤ, pos, neg_ℤ, FitsSigned, w64, arith, refl, ◌*◌}
use Rattle.std.proofs.lemmas.Int.{ints}
use Rattle.cull_base.specs.Bounds.{Bounded}
use Rattle.cull_base.proofs.Bounds.{bounded-mul}
use Rattle.cull_base.specs.Depth.{floor_of}
use Rattle.snap_setup.proofs.Floors.{IsPlace, is_place}

-- 2^15 * 16385 * 2^32 + 2^32 is below 2^63
pub record AreNarrow (r o w : ℤ) : Type 0 where
  pub sixteenths : FitsSigned w64 (pos 16 *ℤ r)
  pub product : FitsSigned w64 ((pos 16 *ℤ r) *ℤ o)
  pub sum : FitsSigned w64 (((pos 16 *ℤ r) *ℤ o) +ℤ w)

pub are_narrow : (p : ℕ) (r o w : ℤ) → r ≡ pos p → p ≤ 2048 → neg_ℤ (pos 16385 *ℤ w) ≤ℤ o → o ≤ℤ (pos 16385 *ℤ w) → pos 1 ≤ℤ w → w ≤ℤ pos (2 ^ 32) → AreNarrow r o w
are_narrow p r o w er hp low high least most =
    let b : Bounded (16385 * 2 ^ 32) o = (omega (arith, ints, low, most), omega (arith, ints, high, most)) in
    let n = bounded-mul (2 ^ 15) (16385 * 2 ^ 32) (pos (16 * p)) o (omega (arith, ints, hp), omega (arith, ints, hp)) b in
    rw er (record { sixteenths = omega (arith, ints, hp); product = omega (arith, ints, n); sum = omega (arith, ints, n, least, most) })

pub placed : (p : ℕ) (r o w e q : ℤ) → r ≡ pos p → e ≡ pos 2 *ℤ w → q ≡ floor_of (((pos 16 *ℤ r) *ℤ o) +ℤ w) e →
    p ≤ 2048 → pos 1 ≤ℤ w → neg_ℤ (pos 16385 *ℤ w) ≤ℤ o → o ≤ℤ (pos 16385 *ℤ w) → IsPlace p o w q
placed p r o w e q er ee eq hp hw low high = is_place p o w (pos (16 * p) *ℤ o) ((pos (16 * p) *ℤ o) +ℤ w) e q refl refl ee (rw er at eq) hp hw low high

-- The bits of a mask: which of a subtile's two depths holds at a sample.
use Rattle.std.proofs.Common.{◌≡◌, ℕ, zero, suc, ◌/◌, ◌^◌, ◌<◌, true, false, nat_eq, List, Bool, bit_and, arith, refl, ap, ◌∙◌, sym}
use Rattle.std.specs.Int.{bit_at}
use Rattle.std.proofs.lemmas.Bool.Decides.{nat_tests}
use Rattle.std.proofs.lemmas.Nat.Bits.{bit_at-suc, bit_at_lowest, shr_and_one}
use Rattle.cull_base.specs.State.{State, bits, bound_at, has, samples_of}

has-bits : (n m k : ℕ) → k < n → has (bits n m) k ≡ nat_eq (bit_at m k) 1
has-bits zero m k lt = absurd (omega (arith, lt))
has-bits (suc n) m zero lt = ap (λ b. nat_eq b 1) (sym (bit_at_lowest m))
has-bits (suc n) m (suc k) lt = has-bits n (m / 2) k (omega (arith, lt)) ∙ ap (λ b. nat_eq b 1) (sym (bit_at-suc m k))

has-bit : (m k : ℕ) → k < 32 → has (samples_of m) k ≡ nat_eq (bit_at m k) 1
unfolding samples_of
has-bit m k lt = has-bits 32 m k lt

-- a sample whose bit is set
pub marked : (m k : ℕ) → k < 32 → bit_and (m / 2 ^ k) 1 ≡ 1 → has (samples_of m) k ≡ true
marked m k lt one =
    let bit : bit_at m k ≡ 1 = sym (shr_and_one m k) ∙ one in
    has-bit m k lt ∙ ap (λ b. nat_eq b 1) bit

-- and another
pub unmarked : (m k : ℕ) → k < 32 → (bit_and (m / 2 ^ k) 1 ≡ 1 → ⊥) → has (samples_of m) k ≡ false
unmarked m k lt other = has-bit m k lt ∙ clear (bit_at m k) (λ e. other (shr_and_one m k ∙ e))
  where
    clear : (b : ℕ) → (b ≡ 1 → ⊥) → nat_eq b 1 ≡ false
    clear b ne = grind (arith, nat_tests)

-- the bound at a sample whose bit is set
pub bound_marked : (s : State) (m k : ℕ) → samples_of m ≡ s.samples → k < 32 → bit_and (m / 2 ^ k) 1 ≡ 1 → s.working ≡ bound_at s k
bound_marked s m k is lt one =
    let h : has s.samples k ≡ true = ap (λ (xs : List Bool). has xs k) (sym is) ∙ marked m k lt one in
    rw h refl

-- and at another
pub bound_unmarked : (s : State) (m k : ℕ) → samples_of m ≡ s.samples → k < 32 → (bit_and (m / 2 ^ k) 1 ≡ 1 → ⊥) → s.reference ≡ bound_at s k
bound_unmarked s m k is lt other =
    let h : has s.samples k ≡ false = ap (λ (xs : List Bool). has xs k) (sym is) ∙ unmarked m k lt other in
    rw h refl

-- Fractions with positive denominators are compared by their cross products.
use Rattle.std.proofs.Common.{◌≡◌, ℤ, pos, ◌*ℤ◌, ◌≤ℤ◌, ◌<ℤ◌, arith, refl, ◌⊎◌, inl, inr, Bool, true, false, int_le}
use Rattle.std.proofs.lemmas.Int.{ints}
use Rattle.cull_base.proofs.Ring.{diff-mul, diff-same, over3}
use Rattle.depth_plane.proofs.Products.{le_times, le_from_times}

pub either_le : (a b : ℤ) → (a ≤ℤ b) ⊎ (b ≤ℤ a)
either_le a b = by (int_le a b) refl
  where
    by : (x : Bool) → int_le a b ≡ x → (a ≤ℤ b) ⊎ (b ≤ℤ a)
    by true e = inl (omega (arith, ints, e))
    by false e = inr (omega (arith, ints, e))

swap : (a b c : ℤ) → (a *ℤ b) *ℤ c ≡ (a *ℤ c) *ℤ b
swap = over3 (λ a b c. (a *ℤ b) *ℤ c ≡ (a *ℤ c) *ℤ b) (λ a a' b b' c c'. simp diff-mul (diff-same _ _ _ _ (omega arith)))

-- n / d is no greater than m / e, and that no greater than k / f
pub through : (n d m e k f : ℤ) → pos 0 <ℤ d → pos 0 <ℤ e → pos 0 <ℤ f → (n *ℤ e) ≤ℤ (m *ℤ d) → (m *ℤ f) ≤ℤ (k *ℤ e) → (n *ℤ f) ≤ℤ (k *ℤ d)
through n d m e k f hd he hf x y =
    let a = le_times (n *ℤ e) (m *ℤ d) f (omega (arith, ints, hf)) x in
    let b = le_times (m *ℤ f) (k *ℤ e) d (omega (arith, ints, hd)) y in
    let first = swap n e f in
    let middle = swap m d f in
    let last = swap k e d in
    le_from_times (n *ℤ f) (k *ℤ d) e he (omega (arith, ints, a, b, first, middle, last))

-- v is no greater than n / d, and that no greater than k / f
pub reaches_through : (v n d k f : ℤ) → pos 0 <ℤ d → pos 0 <ℤ f → (v *ℤ d) ≤ℤ n → (n *ℤ f) ≤ℤ (k *ℤ d) → (v *ℤ f) ≤ℤ k
reaches_through v n d k f hd hf x y =
    let a = le_times (v *ℤ d) n f (omega (arith, ints, hf)) x in
    let first = swap v d f in
    le_from_times (v *ℤ f) k d hd (omega (arith, ints, a, first, y))

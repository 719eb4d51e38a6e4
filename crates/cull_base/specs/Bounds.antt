-- Bounds on integers.
use Rattle.std.specs.Prelude.{ℕ, ℤ, pos, neg_ℤ, ◌≤ℤ◌}

-- v lies at most n away from 0
abbrev pub Bounded : ℕ → ℤ → Type 0
Bounded n v = (neg_ℤ (pos n) ≤ℤ v) × (v ≤ℤ pos n)

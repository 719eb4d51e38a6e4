-- Fixed-point numbers that stand for fractions.
use Rattle.std.specs.Prelude.{ℕ, ℤ, pos, ◌<◌, ◌+ℤ◌, ◌*ℤ◌, ◌<ℤ◌}

-- parts, of which so many make a whole, that stand for (n + 1/2) / p, with an error of less than half a step, 1 / 2p
pub record StandsFor (whole : ℕ) (n : ℤ) (p : ℕ) (parts : ℤ) : Type 0 where
  pub positive : 0 < p
  pub above : (n *ℤ pos whole) <ℤ (parts *ℤ pos p)
  pub below : (parts *ℤ pos p) <ℤ ((n +ℤ pos 1) *ℤ pos whole)

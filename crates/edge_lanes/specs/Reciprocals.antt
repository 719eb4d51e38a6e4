-- The reciprocal of a number, in parts of 2^64.
use Rattle.std.specs.Prelude.{ℕ, ◌+◌, ◌*◌, ◌^◌, ◌<◌, ◌≤◌}

-- the number is positive, and this is 2^64 over it, or too small by at most two
pub record IsReciprocal (number reciprocal : ℕ) : Type 0 where
  pub positive : 0 < number
  pub least : reciprocal * number ≤ 2 ^ 64
  pub most : 2 ^ 64 ≤ (reciprocal + 2) * number

-- A number that is divided by more than once.
use Rattle.std.specs.Prelude.{ℕ, ◌≡◌, ◌<◌, ◌-◌, ◌/◌, ◌^◌}

-- the number is positive, and this is its reciprocal in parts of 2^64 - 1, rounded down
pub record IsDivisor (number reciprocal : ℕ) : Type 0 where
  pub positive : 0 < number
  pub is_reciprocal : reciprocal ≡ (2 ^ 64 - 1) / number

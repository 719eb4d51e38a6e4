-- Reciprocals of numbers that have 32 binary digits, in parts of 2^63.
use Rattle.std.specs.Prelude.{◌≡◌, ℕ, ◌+◌, ◌-◌, ◌*◌, ◌/◌, ◌^◌, ◌<◌, ◌≤◌}
use Rattle.std.specs.Int.{leading_zeros, w32}

-- r times the number lies less than e away from 2^63
pub record IsNear (e number r : ℕ) : Type 0 where
  pub low : 2 ^ 63 < number * r + e
  pub high : number * r < 2 ^ 63 + e

-- a positive number, 2 to its leading zeros, the product of these, and a reciprocal of that
pub record IsReciprocal (d power number r : ℕ) : Type 0 where
  pub power_is : power ≡ 2 ^ leading_zeros w32 d
  pub number_is : number ≡ d * power
  pub least : 2 ^ 31 ≤ number
  pub most : number < 2 ^ 32
  pub near : IsNear (2 ^ 34) number r
  pub within : r < 2 ^ 32

-- a step of Newton's method, in whole numbers
abbrev pub newton : ℕ → ℕ → ℕ
newton number r = 2 * (r * (2 ^ 32 - number * r / 2 ^ 32) / 2 ^ 32)

-- 32 bits hold all numbers of a step
pub record CanStep (number r : ℕ) : Type 0 where
  pub some : 0 < number * r / 2 ^ 32
  pub fits : r * (2 ^ 32 - number * r / 2 ^ 32) < 2 ^ 63

-- Which products of floats are too many units to be held.
use Rattle.std.specs.Prelude.{ℕ, ◌+◌, ◌≤◌, List, slice_index}
use Rattle.float_bits.specs.Floats.{power_of}

-- Two floats have a product of less than 2^60 units of 2^exponent parts of 2^-298. Where they don't meet this, and
-- neither is below 2^-126, it is 2^59 units or more.
abbrev pub IsShort : ℕ → ℕ → ℕ → Type 0
IsShort exponent a b = power_of a + power_of b ≤ exponent + 12

-- the bits of the number 1
abbrev pub one : ℕ
one = 1065353216

-- a float by column k of a matrix, for x, y and w
pub record IsColumnInReach (exponent : ℕ) (matrix : List ℕ) (k float : ℕ) : Type 0 where
  pub x : IsShort exponent (slice_index matrix k) float
  pub y : IsShort exponent (slice_index matrix (k + 4)) float
  pub w : IsShort exponent (slice_index matrix (k + 8)) float

pub record IsPositionInReach (exponent : ℕ) (matrix position : List ℕ) : Type 0 where
  pub x : IsColumnInReach exponent matrix 0 (slice_index position 0)
  pub y : IsColumnInReach exponent matrix 1 (slice_index position 1)
  pub z : IsColumnInReach exponent matrix 2 (slice_index position 2)

-- all the products that the clip coordinates of a position add up
pub record IsInReach (exponent : ℕ) (matrix position : List ℕ) : Type 0 where
  pub coordinates : IsPositionInReach exponent matrix position
  pub last : IsColumnInReach exponent matrix 3 one

-- Numbers to divide by, eight at once.
use Rattle.std.specs.Prelude.{◌≡◌, ℕ, ◌+◌, ◌*◌, ◌/◌, ◌^◌, ◌<◌, ◌≤◌, List, length, slice_index_or}

-- a number of at most 24 binary digits, what makes it one of 32, and 2^63 over the product, never too great
pub record IsDivisor (w power r : ℕ) : Type 0 where
  pub least : 1 ≤ w
  pub most : w ≤ 2 ^ 24
  pub whole : 2 ^ 7 * (power / 2 ^ 7) ≡ power
  pub product_least : 2 ^ 31 ≤ w * power
  pub product_most : w * power < 2 ^ 32
  pub low : w * power * r ≤ 2 ^ 63
  pub high : 2 ^ 63 < w * power * r + 3 * 2 ^ 34

pub record AreDivisors (numbers powers reciprocals : List ℕ) : Type 0 where
  pub eight : length numbers ≡ 8
  pub eight_powers : length powers ≡ 8
  pub eight_reciprocals : length reciprocals ≡ 8
  pub each : (j : ℕ) → j < 8 → IsDivisor (slice_index_or numbers j 0) (slice_index_or powers j 0) (slice_index_or reciprocals j 0)

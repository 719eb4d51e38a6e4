-- What each coordinate of a position adds to its clip coordinates.
use Rattle.std.specs.Prelude.{ℕ, pos, ◌^◌, List}
use Rattle.exact_clip.specs.Clip.{number_at}
use Rattle.exact_clip.specs.Lost.{one, IsColumnInReach}
use Rattle.exact_clip.specs.Terms.{AreCuts, column_times}
use Rattle.exact_clip.specs.declared.held.Held.{Held}
use Rattle.exact_clip.specs.declared.parts.Parts.{Parts}

pub record AreParts (exponent : ℕ) (matrix position : List ℕ) (p : Parts) : Type 0 where
  pub x : AreCuts (2 ^ exponent) p.x (column_times matrix 0 (number_at position 0))
  pub y : AreCuts (2 ^ exponent) p.y (column_times matrix 1 (number_at position 1))
  pub z : AreCuts (2 ^ exponent) p.z (column_times matrix 2 (number_at position 2))

-- what the last column adds to each position, where it isn't lost
pub record IsLast (exponent : ℕ) (matrix : List ℕ) (v : Held) : Type 0 where
  pub cuts : AreCuts (2 ^ exponent) v (column_times matrix 3 (pos (2 ^ 149)))
  pub reach : IsColumnInReach exponent matrix 3 one

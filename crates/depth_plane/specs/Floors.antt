-- Eight numbers over one size, rounded down: what a plane rises by from a tile's first subtile to each.
use Rattle.std.specs.Prelude.{ℕ, ℤ, pos, ◌≡◌, ◌+◌, ◌/◌, ◌%◌, ◌^◌, ◌<◌, ◌≤◌, ◌+ℤ◌, ◌-ℤ◌, ◌*ℤ◌, List, length, slice_index_or}

-- two rows of four numbers: a step to the right adds one number, and a step below another
abbrev pub number_at : ℤ → ℤ → ℕ → ℤ
number_at right below j = (right *ℤ pos (j % 4)) +ℤ (below *ℤ pos (j / 4))

-- Each of them is a whole number of sizes and a rest below the size. The wholes are held 2^28 greater.
pub record AreFloors (right below : ℤ) (size : ℕ) (wholes rests : List ℕ) : Type 0 where
  pub small : size < 2 ^ 31
  pub eight_wholes : length wholes ≡ 8
  pub eight_rests : length rests ≡ 8
  pub wholes_within : (j : ℕ) → j < 8 → slice_index_or wholes j 0 ≤ 2 ^ 29 + 2
  pub rests_within : (j : ℕ) → j < 8 → slice_index_or rests j 0 < size
  pub numbers : (j : ℕ) → j < 8 → number_at right below j ≡ ((pos (slice_index_or wholes j 0) -ℤ pos (2 ^ 28)) *ℤ pos size) +ℤ pos (slice_index_or rests j 0)

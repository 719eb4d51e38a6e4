-- What is divided for nearness, in lanes of 32 bits.
use Rattle.std.specs.Prelude.{◌≡◌, ℕ, ◌+◌, ◌*◌, ◌^◌, ◌≤◌}

-- the top of a grade times a near distance, 2^(right + 1) over 2^left times that, and by how much that is steep
pub record IsScale (top near number held right left : ℕ) : Type 0 where
  pub near_least : 1 ≤ near
  pub near_most : near ≤ 1024
  pub top_most : top ≤ 2 ^ 24
  pub number_is : number ≡ top * near
  pub right_most : right ≤ 7
  pub left_most : left ≤ 4
  pub held_low : held * 2 ^ left ≤ number * 2 ^ (right + 1)
  pub held_high : number * 2 ^ (right + 1) ≤ held * 2 ^ left + 2 ^ left
  pub steep : 2 ^ 5 * 2 ^ left ≤ near * 2 ^ right

-- Eight columns at a time, and the test that serves both sides.
use Rattle.std.specs.Prelude.{ℕ, ℤ, pos, negsuc, ◌+◌, ◌*◌, ◌/◌, ◌%◌, ◌+ℤ◌, ◌*ℤ◌, List, [], ◌∷◌, Bool, cond, int_le, map}
use Rattle.std.specs.Int.{int_min, int_max}
use Rattle.std.specs.Simd.Lanes.{mask_l}
use Rattle.cull_base.specs.declared.triangle.Side.{Side}
use Rattle.cull_base.specs.declared.triangle.Side.TheVariants.{Occluder, Object}

abbrev pub columns : List ℕ
columns = 0 ∷ 1 ∷ 2 ∷ 3 ∷ 4 ∷ 5 ∷ 6 ∷ 7 ∷ []

-- what each of eight columns adds to a value
abbrev pub offsets_of : ℤ → List ℤ
offsets_of step = map (λ c. step *ℤ pos c) columns

-- the most and the least that a sample of a subtile adds to the value at its first
abbrev pub highest_of : ℤ → ℤ → ℤ
highest_of column row = int_max (column *ℤ pos 7) (pos 0) +ℤ int_max (row *ℤ pos 3) (pos 0)

abbrev pub lowest_of : ℤ → ℤ → ℤ
lowest_of column row = int_min (column *ℤ pos 7) (pos 0) +ℤ int_min (row *ℤ pos 3) (pos 0)

-- what is added to an edge's value, so that a sample counts where the sum isn't negative
abbrev pub bias_of : Side → Bool → ℤ
bias_of Occluder is_top_or_left = cond is_top_or_left (pos 0) (negsuc 0)
bias_of Object is_top_or_left = pos 0

abbrev pub is_not_negative : ℤ → Bool
is_not_negative v = int_le (pos 0) v

-- the eight bits of one row of a subtile's mask
unfoldable pub row_of : (ℕ → Bool) → ℕ → ℕ
row_of test row = mask_l (map (λ c. test (8 * row + c)) columns)

-- what subtile j of a tile adds to the value at the tile's first sample: a tile has two rows of four subtiles
abbrev pub subtile_step : ℤ → ℤ → ℕ → ℤ
subtile_step column row j = (row *ℤ pos (4 * (j / 4))) +ℤ (column *ℤ pos (8 * (j % 4)))

abbrev pub subtile_steps : ℤ → ℤ → List ℤ
subtile_steps column row = map (subtile_step column row) columns

-- bit j is set where a value isn't negative with what subtile j adds
abbrev pub subtile_signs : ℤ → ℤ → ℤ → ℕ
subtile_signs column row value = mask_l (map (λ j. is_not_negative (value +ℤ subtile_step column row j)) columns)

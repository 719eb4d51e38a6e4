-- The samples of a row that lie on one side of a column.
use Rattle.std.specs.Prelude.{ℕ, ℤ, pos, ◌^◌, ◌+◌, ◌*◌, ◌+ℤ◌, ◌*ℤ◌, Bool, ◌&&◌, ◌||◌, IsTrue, nat_eq, int_le, int_lt}
use Rattle.std.specs.Int.{int_div_euclid, int_min, int_max}

-- The column before which an edge crosses a row of samples: in the first row it is `start` over `size`, each row adds
-- `row` to that, and it is rounded down.
abbrev pub column_at : ℤ → ℤ → ℤ → ℕ → ℤ
column_at start row size y = int_div_euclid (start +ℤ (row *ℤ pos y)) size

-- The samples inside are those from the lesser of a column and a limit on, and before the greater. With the limit 0 they
-- are those before the column; with the limit 2048 those from the column on.
abbrev pub is_between : ℤ → ℕ → ℕ → Bool
is_between column limit x = int_le (int_min column (pos limit)) (pos x) && int_lt (pos x) (int_max column (pos limit))

-- a limit before or past all columns
abbrev pub IsLimit : ℕ → Type 0
IsLimit limit = IsTrue (nat_eq limit 0 || nat_eq limit (2 ^ 11))

-- a column as 16 bits hold it: the first for one before it, and the last that they hold for one past that
abbrev pub held_column : ℤ → ℤ
held_column column = int_min (int_max column (pos 0)) (pos 65535)

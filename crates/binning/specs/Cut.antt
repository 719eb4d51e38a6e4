-- How a screen is cut into bins: by so many columns and rows.
use Rattle.std.specs.Prelude.{ℕ, ◌*◌, ◌≤◌}

pub record CutOf : Type 0 where
  pub columns : ℕ
  pub rows : ℕ

abbrev pub cut_into : ℕ → ℕ → CutOf
cut_into columns rows = record { columns = columns; rows = rows }

pub record IsCut (columns rows : ℕ) : Type 0 where
  pub some_columns : 1 ≤ columns
  pub few_columns : columns ≤ 8
  pub some_rows : 1 ≤ rows
  pub few_rows : rows ≤ 8

abbrev pub bin_count_of : CutOf → ℕ
bin_count_of cut = cut.columns * cut.rows

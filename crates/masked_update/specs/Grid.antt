-- Things in rows and columns, numbered row by row.
use Rattle.std.specs.Prelude.{ℕ, ◌/◌, ◌%◌, ◌&&◌, Bool}
use Rattle.cull_base.specs.Span.{is_between}

-- number t stands in rows from a first to before an end, and in such columns
abbrev pub is_in_rows : ℕ → ℕ → ℕ → ℕ → ℕ → ℕ → Bool
is_in_rows columns first_row end_row first_column end_column t =
    is_between first_row end_row (t / columns) && is_between first_column end_column (t % columns)

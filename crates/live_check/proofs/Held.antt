-- What holds of the tiles of a span, looked at row by row.
use Rattle.std.proofs.Common.{◌≡◌, ℕ, ◌+◌, ◌*◌, ◌<◌, ◌≤◌, true, false, arith, sym, ◌∙◌, subst, inl, inr}
use Rattle.std.proofs.lemmas.Bool.{cases_lt}
use Rattle.cull_base.specs.declared.tile_span.TileSpan.{TileSpan}
use Rattle.cull_base.specs.Screen.{Dimensions, tile_columns_of, tile_place}
use Rattle.cull_base.specs.Span.{IsSpan, has_tile}
use Rattle.cull_base.proofs.Places.{row_below}
use Rattle.live_check.specs.Moving.{IsBefore}
use Rattle.live_check.proofs.Stating.{no_column, no_row, past_rows, row_from}

-- it holds of the span's tiles among the first n
abbrev pub HeldBefore : (ℕ → Type 0) → Dimensions → TileSpan → ℕ → Type 0
HeldBefore P size span n = (t : ℕ) → IsBefore size span n t → P t

module _ (P : ℕ → Type 0) (size : Dimensions) (span : TileSpan) where
  -- a tile that isn't of the span
  apart : (t : ℕ) → has_tile span (tile_place size t) ≡ true → has_tile span (tile_place size t) ≡ false → P t
  apart t has off = let no : true ≡ false = sym has ∙ off in absurd cc

  pub held_more : (n : ℕ) → HeldBefore P size span n → P n → HeldBefore P size span (n + 1)
  held_more n held here t before = elim (cases_lt t n) [
    | inl lt ↦ held t (lt, before.1)
    | inr le ↦ let same : n ≡ t = omega (arith, le, before.0) in subst P same here
  ]

  pub held_rows_begun : 0 < tile_columns_of size → HeldBefore P size span (span.first_row * tile_columns_of size)
  held_rows_begun some t before = apart t before.1 (no_row span (tile_place size t) (row_below t (tile_columns_of size) span.first_row some (omega (arith, before.0))))

  pub held_row_begun : (row : ℕ) → IsSpan size span → HeldBefore P size span (row * tile_columns_of size) → HeldBefore P size span (row * tile_columns_of size + span.first_column)
  held_row_begun row is held t before =
      let some = is.columns in let within = is.columns_within in
      elim (cases_lt t (row * tile_columns_of size)) [
        | inl lt ↦ held t (lt, before.1)
        | inr le ↦ apart t before.1 (no_column size span row t le (omega (arith, before.0, some, within)) (inl before.0))
      ]

  pub held_row_ended : (row column : ℕ) → span.end_column ≤ column → HeldBefore P size span (row * tile_columns_of size + column) → HeldBefore P size span ((row + 1) * tile_columns_of size)
  held_row_ended row column end held t before = elim (cases_lt t (row * tile_columns_of size + column)) [
    | inl lt ↦ held t (lt, before.1)
    | inr le ↦ apart t before.1 (no_column size span row t (omega (arith, le)) before.0 (inr (omega (arith, le, end))))
  ]

  pub held_all : (row : ℕ) → 0 < tile_columns_of size → span.end_row ≤ row → HeldBefore P size span (row * tile_columns_of size) → (t : ℕ) → has_tile span (tile_place size t) ≡ true → P t
  held_all row some end held t has = elim (cases_lt t (row * tile_columns_of size)) [
    | inl lt ↦ held t (lt, has)
    | inr le ↦ apart t has (past_rows span (tile_place size t) (omega (arith, end, row_from size row t some le)))
  ]

pub held_as : (P Q : ℕ → Type 0) (size : Dimensions) (span : TileSpan) (n : ℕ) → ((t : ℕ) → P t → Q t) → HeldBefore P size span n → HeldBefore Q size span n
held_as P Q size span n to held t before = to t (held t before)

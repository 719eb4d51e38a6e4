-- The tiles of a window, by place and by number.
use Rattle.std.proofs.Common.{◌≡◌, ℕ, zero, suc, ◌+◌, ◌-◌, ◌*◌, ◌/◌, ◌%◌, ◌<◌, ◌≤◌, true, nat_le, nat_lt, arith, ap, ◌∙◌, sym}
use Rattle.std.proofs.lemmas.Bool.{and_parts, and_from, leb-true, ltb-true, le-leb, lt-ltb}
use Rattle.std.proofs.lemmas.Nat.{div-add-mod'}
use Rattle.std.proofs.Math.Nat.{mod-lt}
use Rattle.cull_base.specs.Screen.{Dimensions, tile_columns_of, tile_rows_of, tile_count_of, tile_place}
use Rattle.cull_base.specs.Span.{is_between, has_row, has_column, has_tile, number_in, tiles_in, columns_in, rows_in, whole_span, IsSpan}
use Rattle.cull_base.specs.declared.place.Tile.{Tile}
use Rattle.cull_base.specs.declared.tile_span.TileSpan.{TileSpan}
use Rattle.cull_base.proofs.Places.{row_below}
use Rattle.masked_update.specs.Canvas.{IsInWindow}
use Rattle.masked_update.proofs.Grid.{place, number_below}

abbrev pub tile_with : ℕ → ℕ → Tile
tile_with column row = record { column = column; row = row }

pub same_place : (p q : Tile) → p.column ≡ q.column → p.row ≡ q.row → p ≡ q
same_place p q columns rows = ap (λ c. tile_with c p.row) columns ∙ ap (tile_with q.column) rows

-- the place that the loops know is the tile's
pub place_of_number : (size : Dimensions) (row column : ℕ) → column < tile_columns_of size → tile_place size (row * tile_columns_of size + column) ≡ record { column = column; row = row }
place_of_number size row column lt = let at = place row (tile_columns_of size) column lt in same_place (tile_place size (row * tile_columns_of size + column)) (tile_with column row) at.1 at.0

-- where a place stands that a span has
pub record Stands (span : TileSpan) (p : Tile) : Type 0 where
  pub row_from : span.first_row ≤ p.row
  pub row_before : p.row < span.end_row
  pub column_from : span.first_column ≤ p.column
  pub column_before : p.column < span.end_column

pub stands : (span : TileSpan) (p : Tile) → has_tile span p ≡ true → Stands span p
stands span p h =
    let (rows, columns) = and_parts (has_row span p.row) (has_column span p.column) h in
    let (a, b) = and_parts (nat_le span.first_row p.row) (nat_lt p.row span.end_row) rows in
    let (c, d) = and_parts (nat_le span.first_column p.column) (nat_lt p.column span.end_column) columns in
    record { row_from = leb-true _ _ a; row_before = ltb-true _ _ b; column_from = leb-true _ _ c; column_before = ltb-true _ _ d }

pub between : (first end n : ℕ) → first ≤ n → n < end → is_between first end n ≡ true
between first end n le lt = and_from (nat_le first n) (nat_lt n end) (le-leb first n le) (lt-ltb n end lt)

pub has : (span : TileSpan) (p : Tile) → Stands span p → has_tile span p ≡ true
has span p s =
    and_from (has_row span p.row) (has_column span p.column) (between span.first_row span.end_row p.row s.row_from s.row_before) (between span.first_column span.end_column p.column s.column_from s.column_before)

pub number_within : (window : TileSpan) (p : Tile) → has_tile window p ≡ true → number_in window p < tiles_in window
number_within window p h =
    let s = stands window p h in
    number_below (p.row - window.first_row) (rows_in window) (p.column - window.first_column) (columns_in window) (omega (arith, s.row_from, s.row_before)) (omega (arith, s.column_from, s.column_before))

-- two places of a window that have one number are one
pub one_place : (window : TileSpan) (p q : Tile) → has_tile window p ≡ true → has_tile window q ≡ true → number_in window p ≡ number_in window q → p ≡ q
one_place window p q hp hq e =
    let s = stands window p hp in
    let t = stands window q hq in
    let a = place (p.row - window.first_row) (columns_in window) (p.column - window.first_column) (omega (arith, s.column_from, s.column_before)) in
    let b = place (q.row - window.first_row) (columns_in window) (q.column - window.first_column) (omega (arith, t.column_from, t.column_before)) in
    let rows : p.row - window.first_row ≡ q.row - window.first_row = sym a.0 ∙ ap (λ n. n / columns_in window) e ∙ b.0 in
    let columns : p.column - window.first_column ≡ q.column - window.first_column = sym a.1 ∙ ap (λ n. n % columns_in window) e ∙ b.1 in
    same_place p q (omega (arith, columns, s.column_from, t.column_from)) (omega (arith, rows, s.row_from, t.row_from))

-- the number on the screen of a place of a window
pub on_screen : (size : Dimensions) (window : TileSpan) (p : Tile) → IsSpan size window → has_tile window p ≡ true → (t : ℕ) × IsInWindow size window t × (tile_place size t ≡ p)
on_screen size window p span h =
    let s = stands window p h in
    let columns : p.column < tile_columns_of size = omega (arith, s.column_before, span.columns_within) in
    let rows : p.row < tile_rows_of size = omega (arith, s.row_before, span.rows_within) in
    let at = place_of_number size p.row p.column columns in
    (p.row * tile_columns_of size + p.column, record { on_screen = number_below p.row (tile_rows_of size) p.column (tile_columns_of size) rows columns; within = ap (has_tile window) at ∙ h }, at)

-- each tile of the screen stands in the window of the whole screen, by its own number
pub on_whole : (size : Dimensions) (t : ℕ) → t < tile_count_of size → IsInWindow size (whole_span size) t × (number_in (whole_span size) (tile_place size t) ≡ t)
on_whole size t lt = (record { on_screen = lt; within = has (whole_span size) (tile_place size t) (record { row_from = omega arith; row_before = row_below t columns rows some lt; column_from = omega arith; column_before = mod-lt t some }) }, number)
  where
    columns : ℕ
    columns = tile_columns_of size

    rows : ℕ
    rows = tile_rows_of size

    positive : (c r n : ℕ) → n < c * r → 0 < c
    positive zero r n h = absurd (omega (arith, h))
    positive (suc c) r n h = omega arith

    some : 0 < columns
    some = positive columns rows t lt

    minus_none : (n : ℕ) → n - 0 ≡ n
    minus_none n = omega arith

    number : number_in (whole_span size) (tile_place size t) ≡ t
    number = simp minus_none (div-add-mod' t columns)

pub tiles_in-whole : (size : Dimensions) → tiles_in (whole_span size) ≡ tile_count_of size
tiles_in-whole size = simp minus_none
  where
    minus_none : (n : ℕ) → n - 0 ≡ n
    minus_none n = omega arith

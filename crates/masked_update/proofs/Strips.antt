-- Spans cut into strips of columns, that change one after the other.
use Rattle.std.proofs.Common.{◌≡◌, inl, inr, ℕ, ◌+◌, ◌<◌, ◌≤◌, ◌&&◌, true, false, cond, arith, ap, ◌∙◌}
use Rattle.std.proofs.lemmas.Bool.{and_right, cases_lt, cond-false}
use Rattle.std.proofs.lemmas.Bool.Decides.{nat_tests}
use Rattle.cull_base.specs.Screen.{Dimensions}
use Rattle.cull_base.specs.Span.{IsPartOf, IsSpan, has_row, has_tile, is_between}
use Rattle.cull_base.specs.declared.place.Tile.{Tile}
use Rattle.cull_base.specs.declared.tile_span.TileSpan.{TileSpan}
use Rattle.masked_update.specs.TileOf.{TileOf}
use Rattle.masked_update.specs.Canvas.{CanvasOf, tile_on}
use Rattle.masked_update.specs.Walk.{ChangedWhere}
use Rattle.masked_update.proofs.Grid.{none_between}
use Rattle.masked_update.proofs.Walks.{columns_before, still}

-- so many columns of a span from one on
abbrev pub strip_of : TileSpan → ℕ → ℕ → TileSpan
strip_of span column count = record span { first_column = column; end_column = column + count }

pub part_of_strip : (window span : TileSpan) (column count : ℕ) → IsPartOf window span → span.first_column ≤ column → column + count ≤ span.end_column → IsPartOf window (strip_of span column count)
part_of_strip window span column count part from to = record {
  first_column = omega (arith, part.first_column, from);
  columns = omega arith;
  end_column = omega (arith, part.end_column, to);
  first_row = part.first_row;
  rows = part.rows;
  end_row = part.end_row;
}

pub span_of_strip : (size : Dimensions) (span : TileSpan) (column count : ℕ) → IsSpan size span → column + count ≤ span.end_column → IsSpan size (strip_of span column count)
span_of_strip size span column count is to = record {
  columns = omega arith;
  rows = is.rows;
  columns_within = omega (arith, is.columns_within, to);
  rows_within = is.rows_within;
}

-- before the first column there is none
pub none_before : (span : TileSpan) (p : Tile) → has_tile (columns_before span span.first_column) p ≡ false
none_before span p = and_right (has_row span p.row) _ (none_between span.first_column p.column)

early : (first end n : ℕ) → n < first → is_between first end n ≡ false
early first end n lt = grind (arith, nat_tests)

past : (first end n : ℕ) → end ≤ n → is_between first end n ≡ false
past first end n le = grind (arith, nat_tests)

longer : (first column count n : ℕ) → n < column → is_between first column n ≡ is_between first (column + count) n
longer first column count n lt = grind (arith, nat_tests)

later : (first column end n : ℕ) → first ≤ column → column ≤ n → is_between column end n ≡ is_between first end n
later first column end n le from = grind (arith, nat_tests)

-- a strip more
pub strips_more : (span : TileSpan) (f : Tile → TileOf → TileOf) (old now new : CanvasOf) (column count : ℕ) → span.first_column ≤ column → ChangedWhere (has_tile (columns_before span column)) f old now
    → ChangedWhere (has_tile (strip_of span column count)) f now new → ChangedWhere (has_tile (columns_before span (column + count))) f old new
strips_more span f old now new column count le inv step = record { window = step.window ∙ inv.window; whole = step.whole; tiles = λ p h. by p h }
  where
    stepped : (p : Tile) → has_tile old.window p ≡ true → tile_on new p ≡ cond (has_tile (strip_of span column count) p) (f p (tile_on now p)) (tile_on now p)
    stepped p h = step.tiles p (ap (λ (w : TileSpan). has_tile w p) inv.window ∙ h)

    by : (p : Tile) → has_tile old.window p ≡ true → tile_on new p ≡ cond (has_tile (columns_before span (column + count)) p) (f p (tile_on old p)) (tile_on old p)
    by p h = elim (cases_lt p.column column) [
      | inl before ↦
          stepped p h ∙ cond-false _ _ _ (and_right (has_row span p.row) _ (early column (column + count) p.column before)) ∙ inv.tiles p h
          ∙ ap (λ b. cond (has_row span p.row && b) (f p (tile_on old p)) (tile_on old p)) (longer span.first_column column count p.column before)
      | inr from ↦
          let was : tile_on now p ≡ tile_on old p = still (has_tile (columns_before span column)) f old now p inv h (and_right (has_row span p.row) _ (past span.first_column column p.column from)) in
          stepped p h ∙ ap (λ (s : TileOf). cond (has_tile (strip_of span column count) p) (f p s) s) was
          ∙ ap (λ b. cond (has_row span p.row && b) (f p (tile_on old p)) (tile_on old p)) (later span.first_column column (column + count) p.column le from)
    ]

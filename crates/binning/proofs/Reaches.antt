-- The bins that a box meets, by the columns and rows of bins that its tiles reach.
use Rattle.std.proofs.Common.{◌≡◌, ℕ, ◌+◌, ◌*◌, ◌/◌, ◌%◌, ◌<◌, ◌≤◌, min, max, Bool, true, false, ◌&&◌, nat_lt, arith, refl, ap, ◌∙◌, sym}
use Rattle.std.specs.Cmp.{both_ways}
use Rattle.std.proofs.lemmas.Bool.{and_parts, and_from, lt-ltb, ltb-true}
use Rattle.std.proofs.lemmas.Nat.{mod_below}
use Rattle.cull_base.proofs.Places.{row_below}
use Rattle.cull_base.specs.declared.rect.Rect.{Rect}
use Rattle.cull_base.specs.declared.tile_span.TileSpan.{TileSpan}
use Rattle.cull_base.specs.Rectangle.{meets}
use Rattle.cull_base.specs.Screen.{Dimensions, IsSize, tile_columns_of, tile_rows_of, tile_place}
use Rattle.cull_base.specs.Span.{is_between, has_tile, IsSpan, HasTilesOf}
use Rattle.binning.specs.Cut.{CutOf, IsCut}
use Rattle.binning.specs.Axis.{ReachesAlong, has_tile_along, shares_tile_along}
use Rattle.binning.specs.Bins.{bin_span_of, bin_rect_of}
use Rattle.binning.specs.Pushed.{is_bin_in_rows}
use Rattle.binning.proofs.BinSpans.{Holds, holds, held, tile_at_place, in_span, in_bin, tile_meets_bin, bin_meets_tile}

rearranged : (r c p q : Bool) → (r && (c && (p && q))) ≡ ((r && q) && (c && p))
rearranged true true true true = refl
rearranged true true true false = refl
rearranged true true false true = refl
rearranged true true false false = refl
rearranged true false p true = refl
rearranged true false p false = refl
rearranged false c p q = refl

-- columns and rows in two spans at once
shared : (span bin : TileSpan) → nat_lt (max span.first_row bin.first_row) (min span.end_row bin.end_row) ≡ true → nat_lt (max span.first_column bin.first_column) (min span.end_column bin.end_column) ≡ true
    → Holds span (max span.first_column bin.first_column) (max span.first_row bin.first_row) × Holds bin (max span.first_column bin.first_column) (max span.first_row bin.first_row)
shared span bin r c =
    let row = ltb-true _ _ r in let column = ltb-true _ _ c in (
      record { from_column = omega arith; to_column = omega (arith, column); from_row = omega arith; to_row = omega (arith, row) },
      record { from_column = omega arith; to_column = omega (arith, column); from_row = omega arith; to_row = omega (arith, row) },
    )

overlap : (first end f e n : ℕ) → first ≤ n → n < end → f ≤ n → n < e → nat_lt (max first f) (min end e) ≡ true
overlap first end f e n p q r s = lt-ltb _ _ (omega arith)

module _ (size : Dimensions) (cut : CutOf) (box : Rect) (span : TileSpan) (valid : IsSize size.width size.height) (is : IsCut cut.columns cut.rows) (tiles : HasTilesOf span size box) (within : IsSpan size span) where
  -- a bin shares a column and a row of tiles with the span exactly where the box meets its rectangle
  pub shares_is : (b : ℕ) → let bin = bin_span_of size cut b in
      (nat_lt (max span.first_row bin.first_row) (min span.end_row bin.end_row) && nat_lt (max span.first_column bin.first_column) (min span.end_column bin.end_column)) ≡ meets box (bin_rect_of size cut b)
  shares_is b = both_ways _ _
      (λ h.
      let (r, c) = and_parts _ _ h in
      let (p, q) = shared span (bin_span_of size cut b) r c in
      let column = max span.first_column (bin_span_of size cut b).first_column in
      let row = max span.first_row (bin_span_of size cut b).first_row in
      let at = tile_at_place size column row (omega (arith, p.to_column, within.columns_within)) (omega (arith, p.to_row, within.rows_within)) in
      let t = row * tile_columns_of size + column in
      let on : has_tile span (tile_place size t) ≡ true = rw (at.1, at.2) (held span column row p) in
      let in_it : has_tile (bin_span_of size cut b) (tile_place size t) ≡ true = rw (at.1, at.2) (held (bin_span_of size cut b) column row q) in
      tile_meets_bin size cut box b t valid is at.0 (in_bin size cut b t valid is at.0 in_it) (sym (tiles t at.0) ∙ on))
      (λ h.
      let (t, lt, e, m) = bin_meets_tile size cut box b valid is h in
      let p = holds span (t % tile_columns_of size) (t / tile_columns_of size) (tiles t lt ∙ m) in
      let q = holds (bin_span_of size cut b) (t % tile_columns_of size) (t / tile_columns_of size) (in_span size cut b t valid is lt e) in
      and_from _ _ (overlap _ _ _ _ (t / tile_columns_of size) p.from_row p.to_row q.from_row q.to_row) (overlap _ _ _ _ (t % tile_columns_of size) p.from_column p.to_column q.from_column q.to_column))

  -- the bins that get a piece are those that its box meets
  pub reached_is_met : (first_row end_row first end b : ℕ) → ReachesAlong cut.columns (tile_columns_of size) span.first_column span.end_column first end → ReachesAlong cut.rows (tile_rows_of size) span.first_row span.end_row first_row end_row
      → b < cut.columns * cut.rows → is_bin_in_rows (record { size = size; cut = cut }) first_row end_row first end b ≡ meets box (bin_rect_of size cut b)
  unfolding bin_span_of
  reached_is_met first_row end_row first end b across down lt =
      let column = b % cut.columns in let row = b / cut.columns in
      let some : 0 < cut.columns = omega (arith, is.some_columns) in
      rearranged (is_between first_row end_row row) (is_between first end column) (has_tile_along cut.columns (tile_columns_of size) column) (has_tile_along cut.rows (tile_rows_of size) row)
      ∙ ap (λ d. d && (is_between first end column && has_tile_along cut.columns (tile_columns_of size) column)) (down row (row_below b cut.columns cut.rows some lt))
      ∙ ap (λ d. shares_tile_along cut.rows (tile_rows_of size) span.first_row span.end_row row && d) (across column (mod_below b cut.columns some))
      ∙ shares_is b

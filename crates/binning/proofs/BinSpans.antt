-- The tiles of a bin, and their pixels.
use Rattle.std.proofs.Common.{◌≡◌, ℕ, ℤ, pos, negsuc, ◌+◌, ◌-◌, ◌*◌, ◌/◌, ◌%◌, ◌<◌, ◌≤◌, ◌<ℤ◌, ◌≤ℤ◌, min, Bool, true, false, ◌&&◌, cond, nat_lt, nat_eq, arith, refl, ap, ◌∙◌, sym, subst}
use Rattle.std.specs.Prelude.{◌↔◌}
use Rattle.std.specs.Cmp.{both_ways}
use Rattle.std.specs.Int.{div_ceil}
use Rattle.std.proofs.lemmas.Bool.{and_parts, and_from, eq-eqb, eqb-true, lt-ltb, ltb-true, le-leb, leb-true}
use Rattle.std.proofs.lemmas.Int.{ints}
use Rattle.std.proofs.lemmas.Nat.{div-mul-add, mod-mul-add, div-add-mod', mul-add-lt, mod_below}
use Rattle.cull_base.proofs.Places.{row_below}
use Rattle.cull_base.specs.declared.rect.Rect.{Rect}
use Rattle.cull_base.specs.declared.tile_span.TileSpan.{TileSpan}
use Rattle.cull_base.specs.Rectangle.{HasPixel, meets, no_pixels}
use Rattle.cull_base.specs.Screen.{Dimensions, IsSize, tile_columns_of, tile_rows_of, tile_count_of, tile_place, tile_rect_of}
use Rattle.cull_base.specs.Span.{is_between, has_tile, IsSpan}
use Rattle.cull_base.proofs.Rectangles.{meets_pixel}
use Rattle.binning.specs.Cut.{CutOf, IsCut}
use Rattle.binning.specs.Axis.{bin_along, first_along, has_tile_along}
use Rattle.binning.specs.Bins.{bin_of, bin_span_of, bin_rect_of, span_rect_of, pixels_of, spread_of, has_tiles, HasTilesOfBin, HasNoTile, IsInTileOfBin}
use Rattle.binning.proofs.Axes.{between_firsts, bin_below, firsts_rise, first_below, each_has_tile}

-- the tiles along each axis
pub some_tile_columns : (size : Dimensions) → IsSize size.width size.height → 0 < tile_columns_of size
some_tile_columns size valid = let wide = valid.wide in omega arith

pub some_tile_rows : (size : Dimensions) → IsSize size.width size.height → 0 < tile_rows_of size
some_tile_rows size valid = let high = valid.high in omega arith

-- a number is its quotient and its remainder
number_test : (row column columns b : ℕ) → column < columns → (nat_eq row (b / columns) && nat_eq column (b % columns)) ≡ nat_eq (row * columns + column) b
number_test row column columns b lt = both_ways _ _
    (λ h. let (r, c) = and_parts _ _ h in eq-eqb _ _ (ap (λ n. n * columns + column) (eqb-true _ _ r) ∙ ap (λ n. b / columns * columns + n) (eqb-true _ _ c) ∙ div-add-mod' b columns))
    (λ h. let e = eqb-true _ _ h in and_from _ _ (eq-eqb _ _ (sym (div-mul-add row columns column lt) ∙ ap (λ n. n / columns) e)) (eq-eqb _ _ (sym (mod-mul-add row columns column lt) ∙ ap (λ n. n % columns) e)))

-- a tile is in the span of a bin exactly where it is in the bin
pub span_has_tile : (size : Dimensions) (cut : CutOf) (b : ℕ) → IsSize size.width size.height → IsCut cut.columns cut.rows → HasTilesOfBin (bin_span_of size cut b) size cut b
unfolding bin_of bin_span_of
span_has_tile size cut b valid is t lt =
    let columns = tile_columns_of size in let rows = tile_rows_of size in
    let some = some_tile_columns size valid in let any = some_tile_rows size valid in
    let across = between_firsts cut.columns columns (b % cut.columns) (t % columns) (omega (arith, is.some_columns)) some in
    let down = between_firsts cut.rows rows (b / cut.columns) (t / columns) (omega (arith, is.some_rows)) any in
    ap (λ d. d && is_between (first_along cut.columns columns (b % cut.columns)) (first_along cut.columns columns (b % cut.columns + 1)) (t % columns)) down
    ∙ ap (λ d. nat_eq (bin_along cut.rows rows (t / columns)) (b / cut.columns) && d) across
    ∙ number_test (bin_along cut.rows rows (t / columns)) (bin_along cut.columns columns (t % columns)) cut.columns b
    (bin_below cut.columns columns (t % columns) some (mod_below t columns some) (omega (arith, is.some_columns)))

pub in_span : (size : Dimensions) (cut : CutOf) (b t : ℕ) → IsSize size.width size.height → IsCut cut.columns cut.rows → t < tile_count_of size → bin_of size cut t ≡ b → has_tile (bin_span_of size cut b) (tile_place size t) ≡ true
in_span size cut b t valid is lt e = span_has_tile size cut b valid is t lt ∙ eq-eqb _ _ e

pub in_bin : (size : Dimensions) (cut : CutOf) (b t : ℕ) → IsSize size.width size.height → IsCut cut.columns cut.rows → t < tile_count_of size → has_tile (bin_span_of size cut b) (tile_place size t) ≡ true → bin_of size cut t ≡ b
in_bin size cut b t valid is lt on = eqb-true _ _ (sym (span_has_tile size cut b valid is t lt) ∙ on)

-- the columns and rows of a tile in a span
pub record Holds (span : TileSpan) (column row : ℕ) : Type 0 where
  pub from_column : span.first_column ≤ column
  pub to_column : column < span.end_column
  pub from_row : span.first_row ≤ row
  pub to_row : row < span.end_row

pub holds : (span : TileSpan) (column row : ℕ) → (is_between span.first_row span.end_row row && is_between span.first_column span.end_column column) ≡ true → Holds span column row
holds span column row h =
    let (r, c) = and_parts _ _ h in let (r0, r1) = and_parts _ _ r in let (c0, c1) = and_parts _ _ c in
    record { from_column = leb-true _ _ c0; to_column = ltb-true _ _ c1; from_row = leb-true _ _ r0; to_row = ltb-true _ _ r1 }

pub held : (span : TileSpan) (column row : ℕ) → Holds span column row → (is_between span.first_row span.end_row row && is_between span.first_column span.end_column column) ≡ true
held span column row h = and_from _ _ (and_from _ _ (le-leb _ _ h.from_row) (lt-ltb _ _ h.to_row)) (and_from _ _ (le-leb _ _ h.from_column) (lt-ltb _ _ h.to_column))

-- the number of the tile at a column and a row
pub tile_at_place : (size : Dimensions) (column row : ℕ) → column < tile_columns_of size → row < tile_rows_of size → let t = row * tile_columns_of size + column in
    (t < tile_count_of size) × (t % tile_columns_of size ≡ column) × (t / tile_columns_of size ≡ row)
tile_at_place size column row lt below =
    let n = mul-add-lt row (tile_columns_of size) column (tile_rows_of size) below lt in
    (n, mod-mul-add row (tile_columns_of size) column lt, div-mul-add row (tile_columns_of size) column lt)

-- a bin's tiles are on the screen
pub bin_is_span : (size : Dimensions) (cut : CutOf) (b : ℕ) → IsCut cut.columns cut.rows → b < cut.columns * cut.rows → IsSpan size (bin_span_of size cut b)
unfolding bin_span_of
bin_is_span size cut b is lt =
    let some : 0 < cut.columns = omega (arith, is.some_columns) in let any : 0 < cut.rows = omega (arith, is.some_rows) in
    let column = mod_below b cut.columns some in
    let row = row_below b cut.columns cut.rows some lt in
    record {
      columns = firsts_rise cut.columns (tile_columns_of size) (b % cut.columns) some;
      rows = firsts_rise cut.rows (tile_rows_of size) (b / cut.columns) any;
      columns_within = first_below cut.columns (tile_columns_of size) (b % cut.columns + 1) some (omega (arith, column));
      rows_within = first_below cut.rows (tile_rows_of size) (b / cut.columns + 1) any (omega (arith, row));
    }

-- the pixels of some columns of tiles, and of one of them
columns_of : (c first end w : ℕ) (x : ℤ) → first ≤ c → c < end → pos (32 * c) ≤ℤ x → x <ℤ pos (min (32 * c + 32) w) → (pos (32 * first) ≤ℤ x) × (x <ℤ pos (min (32 * end) w))
columns_of c first end w (pos m) p q h k = (omega (arith, ints, h, p), omega (arith, ints, k, q))
columns_of c first end w (negsuc m) p q h k = absurd (omega (arith, ints, h))

rows_of : (c first end w : ℕ) (x : ℤ) → first ≤ c → c < end → pos (8 * c) ≤ℤ x → x <ℤ pos (min (8 * c + 8) w) → (pos (8 * first) ≤ℤ x) × (x <ℤ pos (min (8 * end) w))
rows_of c first end w (pos m) p q h k = (omega (arith, ints, h, p), omega (arith, ints, k, q))
rows_of c first end w (negsuc m) p q h k = absurd (omega (arith, ints, h))

-- the column of a pixel
record IsColumn (k first end w tiles : ℕ) (x : ℤ) (c : ℕ) : Type 0 where
  from : first ≤ c
  to : c < end
  within : c < tiles
  low : pos (k * c) ≤ℤ x
  high : x <ℤ pos (min (k * c + k) w)

column_of : (first end w : ℕ) (x : ℤ) → pos (32 * first) ≤ℤ x → x <ℤ pos (min (32 * end) w) → (c : ℕ) × IsColumn 32 first end w (div_ceil w 32) x c
column_of first end w (pos m) h k = (m / 32, record { from = omega (arith, ints, h); to = omega (arith, ints, k); within = omega (arith, ints, k); low = omega (arith, ints); high = omega (arith, ints, k) })
column_of first end w (negsuc m) h k = absurd (omega (arith, ints, h))

row_of : (first end w : ℕ) (x : ℤ) → pos (8 * first) ≤ℤ x → x <ℤ pos (min (8 * end) w) → (c : ℕ) × IsColumn 8 first end w (div_ceil w 8) x c
row_of first end w (pos m) h k = (m / 8, record { from = omega (arith, ints, h); to = omega (arith, ints, k); within = omega (arith, ints, k); low = omega (arith, ints); high = omega (arith, ints, k) })
row_of first end w (negsuc m) h k = absurd (omega (arith, ints, h))

some_tiles : (span : TileSpan) (column row : ℕ) → Holds span column row → has_tiles span ≡ true
some_tiles span column row h =
    and_from (nat_lt span.first_column span.end_column) (nat_lt span.first_row span.end_row) (lt-ltb span.first_column span.end_column (omega (arith, h.from_column, h.to_column))) (lt-ltb span.first_row span.end_row (omega (arith, h.from_row, h.to_row)))

-- a pixel of a bin's rectangle lies in a tile of the bin
pub pixel_in_tile : (size : Dimensions) (cut : CutOf) (b : ℕ) (x y : ℤ) → IsSize size.width size.height → IsCut cut.columns cut.rows → HasPixel (bin_rect_of size cut b) x y → IsInTileOfBin size cut b x y
unfolding bin_rect_of
pixel_in_tile size cut b x y valid is h = by (has_tiles (bin_span_of size cut b)) h
  where
    by : (on : Bool) → HasPixel (cond on (pixels_of size (bin_span_of size cut b)) no_pixels) x y → IsInTileOfBin size cut b x y
    by true p =
        let span = bin_span_of size cut b in
        let columns = tile_columns_of size in
        let (c, across) = column_of span.first_column span.end_column size.width x p.0 p.1 in
        let (r, down) = row_of span.first_row span.end_row size.height y p.2 p.3 in
        let at = tile_at_place size c r across.within down.within in
        let on = held span c r (record { from_column = across.from; to_column = across.to; from_row = down.from; to_row = down.to }) in
        let on_place : has_tile span (tile_place size (r * columns + c)) ≡ true = rw (at.1, at.2) on in
        (r * columns + c, at.0, in_bin size cut b (r * columns + c) valid is at.0 on_place, rw (at.1, at.2) (across.low, across.high, down.low, down.high))
    by false p = absurd (omega (arith, ints, p.0, p.1))

-- and the other way round
pub tile_in_pixel : (size : Dimensions) (cut : CutOf) (b t : ℕ) (x y : ℤ) → IsSize size.width size.height → IsCut cut.columns cut.rows → t < tile_count_of size → bin_of size cut t ≡ b → HasPixel (tile_rect_of size t) x y → HasPixel (bin_rect_of size cut b) x y
unfolding bin_rect_of
tile_in_pixel size cut b t x y valid is lt e p =
    let span = bin_span_of size cut b in
    let h = holds span (t % tile_columns_of size) (t / tile_columns_of size) (in_span size cut b t valid is lt e) in
    let across = columns_of (t % tile_columns_of size) span.first_column span.end_column size.width x h.from_column h.to_column p.0 p.1 in
    let down = rows_of (t / tile_columns_of size) span.first_row span.end_row size.height y h.from_row h.to_row p.2 p.3 in
    subst (λ d. HasPixel (cond d (pixels_of size span) no_pixels) x y) (sym (some_tiles span _ _ h)) (across.0, across.1, down.0, down.1)

pub bin_pixels : (size : Dimensions) (cut : CutOf) (b : ℕ) (x y : ℤ) → IsSize size.width size.height → IsCut cut.columns cut.rows → HasPixel (bin_rect_of size cut b) x y ↔ IsInTileOfBin size cut b x y
bin_pixels size cut b x y valid is = (
  pixel_in_tile size cut b x y valid is,
  (λ (t, lt, e, p). tile_in_pixel size cut b t x y valid is lt e p),
)

-- a bin without tiles has no pixels
pub bin_of_none : (size : Dimensions) (cut : CutOf) (b : ℕ) → IsSize size.width size.height → IsCut cut.columns cut.rows → b < cut.columns * cut.rows → HasNoTile size cut b → bin_rect_of size cut b ≡ no_pixels
unfolding bin_rect_of
bin_of_none size cut b valid is lt none = by (has_tiles (bin_span_of size cut b)) refl
  where
    by : (on : Bool) → has_tiles (bin_span_of size cut b) ≡ on → cond on (pixels_of size (bin_span_of size cut b)) no_pixels ≡ no_pixels
    by true e =
        let span = bin_span_of size cut b in
        let (c, r) = and_parts (nat_lt span.first_column span.end_column) (nat_lt span.first_row span.end_row) e in
        let column = ltb-true span.first_column span.end_column c in let row = ltb-true span.first_row span.end_row r in
        let within = bin_is_span size cut b is lt in
        let at = tile_at_place size span.first_column span.first_row (omega (arith, column, within.columns_within)) (omega (arith, row, within.rows_within)) in
        let on = held span span.first_column span.first_row (record { from_column = omega arith; to_column = column; from_row = omega arith; to_row = row }) in
        let on_place : has_tile span (tile_place size (span.first_row * tile_columns_of size + span.first_column)) ≡ true = rw (at.1, at.2) on in
        absurd (none _ at.0 (in_bin size cut b _ valid is at.0 on_place))
    by false e = refl

-- a box that meets a tile meets the rectangle of the tile's bin
pub tile_meets_bin : (size : Dimensions) (cut : CutOf) (box : Rect) (b t : ℕ) → IsSize size.width size.height → IsCut cut.columns cut.rows → t < tile_count_of size → bin_of size cut t ≡ b
    → meets box (tile_rect_of size t) ≡ true → meets box (bin_rect_of size cut b) ≡ true
tile_meets_bin size cut box b t valid is lt e h =
    let (x, y, p, q) = (meets_pixel box (tile_rect_of size t)).0 h in
    (meets_pixel box (bin_rect_of size cut b)).1 (x, y, p, tile_in_pixel size cut b t x y valid is lt e q)

-- a box that meets a bin's rectangle meets a tile of the bin
pub bin_meets_tile : (size : Dimensions) (cut : CutOf) (box : Rect) (b : ℕ) → IsSize size.width size.height → IsCut cut.columns cut.rows → meets box (bin_rect_of size cut b) ≡ true
    → (t : ℕ) × (t < tile_count_of size) × (bin_of size cut t ≡ b) × (meets box (tile_rect_of size t) ≡ true)
bin_meets_tile size cut box b valid is h =
    let (x, y, p, q) = (meets_pixel box (bin_rect_of size cut b)).0 h in
    let (t, lt, e, r) = pixel_in_tile size cut b x y valid is q in
    (t, lt, e, (meets_pixel box (tile_rect_of size t)).1 (x, y, p, r))

-- a box that doesn't meet a bin's rectangle meets none of the bin's tiles
pub none_meets_bin : (size : Dimensions) (cut : CutOf) (box : Rect) (b t : ℕ) → IsSize size.width size.height → IsCut cut.columns cut.rows → t < tile_count_of size → bin_of size cut t ≡ b
    → meets box (bin_rect_of size cut b) ≡ false → meets box (tile_rect_of size t) ≡ false
none_meets_bin size cut box b t valid is lt e off = by (meets box (tile_rect_of size t)) refl
  where
    by : (m : Bool) → meets box (tile_rect_of size t) ≡ m → m ≡ false
    by true on = sym (tile_meets_bin size cut box b t valid is lt e on) ∙ off
    by false on = refl

-- whether the bin at a column and a row has tiles
pub has_tiles_at : (size : Dimensions) (cut : CutOf) (column row : ℕ) → column < cut.columns
    → has_tiles (bin_span_of size cut (row * cut.columns + column)) ≡ (has_tile_along cut.columns (tile_columns_of size) column && has_tile_along cut.rows (tile_rows_of size) row)
unfolding bin_span_of
has_tiles_at size cut column row lt = rw (mod-mul-add row cut.columns column lt, div-mul-add row cut.columns column lt) refl

-- of a grid with at least as many tiles as bins along each axis every bin does
pub full_has_tiles : (size : Dimensions) (cut : CutOf) (column row : ℕ) → column < cut.columns → IsCut cut.columns cut.rows → cut.columns ≤ tile_columns_of size → cut.rows ≤ tile_rows_of size
    → has_tiles (bin_span_of size cut (row * cut.columns + column)) ≡ true
full_has_tiles size cut column row lt is across down =
    has_tiles_at size cut column row lt ∙ and_from _ _ (each_has_tile cut.columns (tile_columns_of size) column (omega (arith, is.some_columns)) across) (each_has_tile cut.rows (tile_rows_of size) row (omega (arith, is.some_rows)) down)

-- the pixels of a span of tiles go from those of its first tile to those of its last
pub spread_is : (size : Dimensions) (span : TileSpan) (columns : ℕ) (first last : Rect) → columns ≡ tile_columns_of size → IsSpan size span → has_tiles span ≡ true
    → first ≡ tile_rect_of size (span.first_row * columns + span.first_column) → last ≡ tile_rect_of size ((span.end_row - 1) * columns + (span.end_column - 1)) → spread_of first last ≡ span_rect_of size span
spread_is size span columns first last e within on f l =
    let (c, r) = and_parts (nat_lt span.first_column span.end_column) (nat_lt span.first_row span.end_row) on in
    let column = ltb-true span.first_column span.end_column c in let row = ltb-true span.first_row span.end_row r in
    let at = tile_at_place size span.first_column span.first_row (omega (arith, column, within.columns_within)) (omega (arith, row, within.rows_within)) in
    let to = tile_at_place size (span.end_column - 1) (span.end_row - 1) (omega (arith, column, within.columns_within)) (omega (arith, row, within.rows_within)) in
    let x1 : 32 * (span.end_column - 1) + 32 ≡ 32 * span.end_column = omega (arith, column) in
    let y1 : 8 * (span.end_row - 1) + 8 ≡ 8 * span.end_row = omega (arith, row) in
    rw (f, l, e, on, at.1, at.2, to.1, to.2, x1, y1) refl

-- the tile in which a span with tiles begins, and the one with which it ends
pub first_within : (size : Dimensions) (span : TileSpan) (columns : ℕ) → columns ≡ tile_columns_of size → IsSpan size span → has_tiles span ≡ true → span.first_row * columns + span.first_column < tile_count_of size
first_within size span columns e within on =
    let (c, r) = and_parts (nat_lt span.first_column span.end_column) (nat_lt span.first_row span.end_row) on in
    let column = ltb-true span.first_column span.end_column c in let row = ltb-true span.first_row span.end_row r in
    rw e (tile_at_place size span.first_column span.first_row (omega (arith, column, within.columns_within)) (omega (arith, row, within.rows_within))).0

pub last_within : (size : Dimensions) (span : TileSpan) (columns : ℕ) → columns ≡ tile_columns_of size → IsSpan size span → has_tiles span ≡ true → (span.end_row - 1) * columns + (span.end_column - 1) < tile_count_of size
last_within size span columns e within on =
    let (c, r) = and_parts (nat_lt span.first_column span.end_column) (nat_lt span.first_row span.end_row) on in
    let column = ltb-true span.first_column span.end_column c in let row = ltb-true span.first_row span.end_row r in
    rw e (tile_at_place size (span.end_column - 1) (span.end_row - 1) (omega (arith, column, within.columns_within)) (omega (arith, row, within.rows_within))).0

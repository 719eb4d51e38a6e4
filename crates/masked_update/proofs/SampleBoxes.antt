-- The samples that a piece may cover stand between its least and its greatest coordinates.
use Rattle.std.proofs.Common.{◌≡◌, ◌∙◌, ℕ, ℤ, pos, negsuc, ◌+◌, ◌-◌, ◌*◌, ◌<◌, ◌≤◌, ◌+ℤ◌, ◌≤ℤ◌, ◌<ℤ◌, ◌/◌, ◌%◌, arith, refl, ap, sym, subst, true, false, Bool, List, length, cond, min, max, slice_index_or}
use Rattle.std.specs.Int.{div_ceil, int_div_euclid}
use Rattle.std.proofs.lemmas.Bool.{and_left, and_parts, and_right, both_ways, cond-false, cond-true, false_from_ne_true, leb-true, ltb-true}
use Rattle.std.proofs.lemmas.Bool.Decides.{nat_tests}
use Rattle.std.proofs.lemmas.Int.{ints, clamps}
use Rattle.cull_base.specs.Piece.{Piece, IsPiece, covers, sample, middle, least_of, greatest_of, first_pixel, box_of}
use Rattle.cull_base.specs.Rectangle.{meets}
use Rattle.cull_base.specs.Screen.{Dimensions, IsSize, tile_place, tile_rect_of, tile_sub, is_on_screen}
use Rattle.cull_base.specs.Span.{IsPartOf, IsSpan, has_column, has_row, has_tile, is_between, number_in}
use Rattle.cull_base.specs.Fold.{step}
use Rattle.cull_base.specs.State.{State, empty_state}
use Rattle.cull_base.specs.declared.place.Tile.{Tile}
use Rattle.cull_base.specs.declared.rect.Rect.{Rect}
use Rattle.cull_base.specs.declared.tile_span.TileSpan.{TileSpan}
use Rattle.edge_lanes.specs.Inside.{sub_of}
use Rattle.cull_base.proofs.Extents.{least_of_three, greatest_of_three}
use Rattle.cull_base.proofs.Rectangles.{meets_pixel}
use Rattle.depth_plane.proofs.Boxes.{touches-between, covers-in_box}
use Rattle.depth_plane.proofs.Mean.{touches_covered}
use Rattle.masked_update.specs.Samples.{HoldsCovered}
use Rattle.masked_update.specs.TileOf.{TileOf, tile_at}
use Rattle.masked_update.specs.Taken.{merged_tile}
use Rattle.masked_update.specs.Merged.{IsSubBox, IsSubSpan, has_sub, merged_at, merged_by, span_at, sub_rect_of}
use Rattle.masked_update.specs.Reached.{reached_in}
use Rattle.masked_update.specs.declared.sub_span.SubBox.{SubBox}
use Rattle.masked_update.specs.Canvas.{CanvasOf, IsCanvas, IsInWindow, MergedMet, tile_in}
use Rattle.masked_update.specs.Walk.{ChangedWhere}
use Rattle.masked_update.proofs.Boxes.{in_tile}
use Rattle.masked_update.proofs.Merging.{eight_of}
use Rattle.masked_update.proofs.SampledSubs.{step_apart_from}
use Rattle.masked_update.proofs.Tiles.{has, number_within, stands}
use Rattle.masked_update.proofs.Unchanged.{step_unless_covered}

-- a pixel whose sample isn't before a coordinate, and one whose sample isn't past it
from_first : (low : ℤ) (n : ℕ) → low ≤ℤ pos (16 * n + 8) → first_pixel (low +ℤ pos 7) ≤ℤ pos n
from_first low n h = from (low +ℤ pos 7) (omega (arith, ints, h))
  where
    from : (v : ℤ) → v ≤ℤ pos (16 * n + 15) → int_div_euclid v (pos 16) ≤ℤ pos n
    from (pos a) l = let k : a ≤ 16 * n + 15 = omega (arith, ints, l) in omega (arith, ints)
    from (negsuc a) l = omega (arith, ints)

before_end : (high : ℤ) (n : ℕ) → pos (16 * n + 8) ≤ℤ high → pos n <ℤ first_pixel (high +ℤ pos 8)
before_end high n h = before (high +ℤ pos 8) (omega (arith, ints, h))
  where
    before : (v : ℤ) → pos (16 * n + 16) ≤ℤ v → pos n <ℤ int_div_euclid v (pos 16)
    before (pos a) l = let k : 16 * n + 16 ≤ a = omega (arith, ints, l) in omega (arith, ints)
    before (negsuc a) l = absurd (omega (arith, ints, l))

-- a rectangle whose corners are computed so has each pixel whose sample the piece covers
pub holds_covered : (x : Piece) (r : Rect) → IsPiece x → r.x0 ≡ first_pixel (least_of x.xs +ℤ pos 7) → r.y0 ≡ first_pixel (least_of x.ys +ℤ pos 7)
    → r.x1 ≡ first_pixel (greatest_of x.xs +ℤ pos 8) → r.y1 ≡ first_pixel (greatest_of x.ys +ℤ pos 8) → HoldsCovered x r
holds_covered x r piece e0 f0 e1 f1 px py c =
    let (across, down) = touches-between x (middle px py) piece (touches_covered x (middle px py) c) in
    rw (e0, f0, e1, f1) (from_first (least_of x.xs) px across.0, before_end (greatest_of x.xs) px across.1, from_first (least_of x.ys) py down.0, before_end (greatest_of x.ys) py down.1)

-- its first corner isn't past the second
pub samples_ordered : (vs : List ℤ) (a b : ℤ) → length vs ≡ 3 → a ≡ first_pixel (least_of vs +ℤ pos 7) → b ≡ first_pixel (greatest_of vs +ℤ pos 8) → a ≤ℤ b
samples_ordered vs a b three ea eb = rw (ea, eb) (pixels (least_of vs +ℤ pos 7) (greatest_of vs +ℤ pos 8) (let le = ordered in omega (arith, ints, le)))
  where
    ordered : least_of vs ≤ℤ greatest_of vs
    ordered = rw (← least_of_three vs three, ← greatest_of_three vs three) (omega (arith, ints, clamps))

    pixels : (low high : ℤ) → low ≤ℤ high → first_pixel low ≤ℤ first_pixel high
    pixels (pos m) (pos n) le = omega (arith, ints, le)
    pixels (negsuc m) (pos n) le = omega (arith, ints)
    pixels (negsuc m) (negsuc n) le = omega (arith, ints, le)
    pixels (pos m) (negsuc n) le = absurd (omega (arith, ints, le))

-- a piece isn't merged anywhere in a tile that has no pixel of such a rectangle
pub merged_apart : (size : Dimensions) (n : ℕ) (x : Piece) (r : Rect) (t : TileOf) → IsSize size.width size.height → HoldsCovered x r → meets r (tile_rect_of size n) ≡ false → length t.subs ≡ 8
    → merged_tile size (tile_place size n) x t ≡ t
unfolding merged_by
merged_apart size n x r t valid holds off eight = ap (λ subs. tile_with subs t.count) (sym (eight_of (merged_at size (tile_place size n) x t.subs) t.subs eight (λ j h. stays j h (is_on_screen size (tile_sub size n j)) refl)))
  where
    tile_with : List State → ℕ → TileOf
    tile_with subs count = record { subs = subs; count = count }

    clear : (j k : ℕ) → j < 8 → is_on_screen size (tile_sub size n j) ≡ true → k < 32 → covers x (sample (tile_sub size n j) k) ≡ true → ⊥
    clear j k h on below c =
        let u = tile_sub size n j in
        both_ways (meets r (tile_rect_of size n)) off ((meets_pixel r (tile_rect_of size n)).1 (pos (8 * u.column + k % 8), pos (4 * u.row + k / 8), holds (8 * u.column + k % 8) (4 * u.row + k / 8) c, in_tile size n j k valid h below on))

    stays : (j : ℕ) → j < 8 → (on : Bool) → is_on_screen size (tile_sub size n j) ≡ on → let s = slice_index_or t.subs j empty_state in s ≡ cond (is_on_screen size (tile_sub size n j)) (step (tile_sub size n j) s x) s
    stays j h true on = sym (cond-true _ _ _ on ∙ step_unless_covered (tile_sub size n j) (slice_index_or t.subs j empty_state) x (λ k below c. absurd (clear j k h on below c)))
    stays j h false off = sym (cond-false _ _ _ off)

-- a number whose first of two or of four parts is reached, and that isn't past the end
within_two : (first end n k : ℕ) → min (first - 2 * n) 2 ≤ k → k < min (end - 2 * n) 2 → (first / 2 ≤ n) × (n < div_ceil end 2)
within_two first end n k from before = (omega arith, omega arith)

within_four : (first end n k : ℕ) → min (first - 4 * n) 4 ≤ k → k < min (end - 4 * n) 4 → (first / 4 ≤ n) × (n < div_ceil end 4)
within_four first end n k from before = (omega arith, omega arith)

-- a tile of a window in which some of the subtiles stand is one of those tiles
pub reached_has : (b : SubBox) (window : TileSpan) (p : Tile) (j : ℕ) → has_tile window p ≡ true → has_sub (span_at b p) j ≡ true → has_tile (reached_in b window) p ≡ true
reached_has b window p j within on =
    let w = stands window p within in
    let (rows, columns) = and_parts _ _ on in
    let (row_from, row_before) = and_parts _ _ rows in
    let (column_from, column_before) = and_parts _ _ columns in
    let row = within_two b.first_row b.end_row p.row (j / 4) (leb-true _ _ row_from) (ltb-true _ _ row_before) in
    let column = within_four b.first_column b.end_column p.column (j % 4) (leb-true _ _ column_from) (ltb-true _ _ column_before) in
    has (reached_in b window) p (record { row_from = omega (arith, row.0, w.row_from); row_before = omega (arith, row.1, w.row_before); column_from = omega (arith, column.0, w.column_from); column_before = omega (arith, column.1, w.column_before) })

-- a piece isn't merged anywhere in another tile of the window
merged_unreached : (size : Dimensions) (p : Tile) (x : Piece) (r : Rect) (b : SubBox) (window : TileSpan) (t : TileOf) → HoldsCovered x r → IsSubSpan r size p (span_at b p) → has_tile window p ≡ true → has_tile (reached_in b window) p ≡ false
    → length t.subs ≡ 8 → merged_tile size p x t ≡ t
unfolding merged_by
merged_unreached size p x r b window t holds is within off eight = ap (λ subs. tile_with subs t.count) (sym (eight_of (merged_at size p x t.subs) t.subs eight (λ j h. stays j h (is_on_screen size (sub_of p j)) refl)))
  where
    tile_with : List State → ℕ → TileOf
    tile_with subs count = record { subs = subs; count = count }

    apart : (j : ℕ) → j < 8 → is_on_screen size (sub_of p j) ≡ true → meets r (sub_rect_of (sub_of p j)) ≡ false
    apart j h on = false_from_ne_true _ (λ m. both_ways (has_tile (reached_in b window) p) off (reached_has b window p j within (is.reached j h on m)))

    stays : (j : ℕ) → j < 8 → (on : Bool) → is_on_screen size (sub_of p j) ≡ on → let s = slice_index_or t.subs j empty_state in s ≡ cond (is_on_screen size (sub_of p j)) (step (sub_of p j) s x) s
    stays j h true on = sym (cond-true _ _ _ on ∙ step_apart_from (sub_of p j) (slice_index_or t.subs j empty_state) x r holds (apart j h on))
    stays j h false off = sym (cond-false _ _ _ off)

-- each tile of a canvas has eight subtiles
abbrev pub AreEight : CanvasOf → Type 0
AreEight c = (t : ℕ) → t < length c.tiles → length (tile_at c.tiles t).subs ≡ 8

-- a piece is merged into the tiles of the window in which the subtiles stand that hold each sample that it may cover
pub merged_reached : (span : TileSpan) (size : Dimensions) (x : Piece) (r : Rect) (b : SubBox) (old new : CanvasOf) → IsSize size.width size.height → IsPiece x → HoldsCovered x r → IsSubBox r b → b.size ≡ size → IsCanvas old → AreEight old
    → span ≡ reached_in b old.window → ChangedWhere (has_tile span) (λ p t. merged_tile size p x t) old new → MergedMet size x old new
merged_reached span size x r b old new valid piece holds is same whole eights tiles changed = record {
  window = changed.window;
  tiles = λ t within. changed.tiles (tile_place size t) within.within ∙ either t within (eight t within) (has_tile span (tile_place size t)) (meets (box_of x) (tile_rect_of size t)) refl refl;
}
  where
    merged : ℕ → TileOf
    merged t = merged_tile size (tile_place size t) x (tile_in size old t)

    eight : (t : ℕ) → IsInWindow size old.window t → length (tile_in size old t).subs ≡ 8
    eight t within = let lt = number_within old.window (tile_place size t) within.within in eights (number_in old.window (tile_place size t)) (omega (arith, lt, whole))

    unreached : (t : ℕ) → IsInWindow size old.window t → length (tile_in size old t).subs ≡ 8 → has_tile span (tile_place size t) ≡ false → merged t ≡ tile_in size old t
    unreached t within h off =
        let p = tile_place size t in
        merged_unreached size p x r b old.window (tile_in size old t) holds (subst (λ (s : Dimensions). IsSubSpan r s p (span_at b p)) same (is p)) within.within (ap (λ (s : TileSpan). has_tile s p) (sym tiles) ∙ off) h

    either : (t : ℕ) → IsInWindow size old.window t → length (tile_in size old t).subs ≡ 8 → (a c : Bool) → has_tile span (tile_place size t) ≡ a → meets (box_of x) (tile_rect_of size t) ≡ c
        → cond (has_tile span (tile_place size t)) (merged t) (tile_in size old t) ≡ cond (meets (box_of x) (tile_rect_of size t)) (merged t) (tile_in size old t)
    either t within h true true e f = cond-true _ _ _ e ∙ sym (cond-true _ _ _ f)
    either t within h true false e f = cond-true _ _ _ e ∙ merged_apart size t x (box_of x) (tile_in size old t) valid (λ px py c. covers-in_box x px py piece c) f h ∙ sym (cond-false _ _ _ f)
    either t within h false true e f = cond-false _ _ _ e ∙ sym (unreached t within h e) ∙ sym (cond-true _ _ _ f)
    either t within h false false e f = cond-false _ _ _ e ∙ sym (cond-false _ _ _ f)

-- such tiles are the window's where there are any
pub reached_part : (b : SubBox) (window span : TileSpan) → span ≡ reached_in b window → span.first_column < span.end_column → span.first_row < span.end_row → IsPartOf window span
reached_part b window span is columns rows =
    let a : span.first_column ≡ max (b.first_column / 4) window.first_column = ap (λ (s : TileSpan). s.first_column) is in
    let c : span.end_column ≡ min (div_ceil b.end_column 4) window.end_column = ap (λ (s : TileSpan). s.end_column) is in
    let d : span.first_row ≡ max (b.first_row / 2) window.first_row = ap (λ (s : TileSpan). s.first_row) is in
    let e : span.end_row ≡ min (div_ceil b.end_row 2) window.end_row = ap (λ (s : TileSpan). s.end_row) is in
    record { first_column = omega (arith, a); columns = omega (arith, columns); end_column = omega (arith, c); first_row = omega (arith, d); rows = omega (arith, rows); end_row = omega (arith, e) }

pub part_span : (size : Dimensions) (window span : TileSpan) → IsPartOf window span → IsSpan size window → IsSpan size span
part_span size window span part whole = record { columns = part.columns; rows = part.rows; columns_within = omega (arith, part.end_column, whole.columns_within); rows_within = omega (arith, part.end_row, whole.rows_within) }

-- a span whose end isn't past its first has no tile
none_here : (first end n : ℕ) → end ≤ first → is_between first end n ≡ false
none_here first end n le = grind (arith, nat_tests)

pub no_columns : (span : TileSpan) → span.end_column ≤ span.first_column → (p : Tile) → has_tile span p ≡ false
no_columns span le p = and_right (has_row span p.row) _ (none_here span.first_column span.end_column p.column le)

pub no_rows : (span : TileSpan) → span.end_row ≤ span.first_row → (p : Tile) → has_tile span p ≡ false
no_rows span le p = and_left _ (has_column span p.column) (none_here span.first_row span.end_row p.row le)

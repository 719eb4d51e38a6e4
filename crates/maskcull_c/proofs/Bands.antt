-- Rows of tiles as a window of the screen: a piece that is merged into it is merged into each of them.
use Rattle.std.proofs.Common.{◌≡◌, ℕ, zero, suc, ◌+◌, ◌-◌, ◌*◌, ◌/◌, ◌%◌, ◌<◌, List, [], ◌∷◌, ◌++◌, length, take, get_or, arith, ap, ◌∙◌, sym, subst}
use Rattle.std.proofs.Math.Nat.{mod-lt, mul_comm}
use Rattle.std.proofs.lemmas.List.{get_or_default}
use Rattle.std.proofs.lemmas.Nat.{div-add-mod'}
use Rattle.cull_base.specs.Piece.{Piece, IsPiece, box_of}
use Rattle.cull_base.specs.Rectangle.{meets}
use Rattle.cull_base.specs.Screen.{Dimensions, tile_columns_of, tile_place, tile_rect_of, tile_rows_of}
use Rattle.cull_base.specs.Span.{columns_in, has_tile, number_in, rows_in}
use Rattle.cull_base.specs.declared.clip.ClipVertex.{ClipVertex}
use Rattle.cull_base.specs.declared.scene_types.Tri.{Tri}
use Rattle.cull_base.specs.declared.tile_span.TileSpan.{TileSpan}
use Rattle.cull_base.specs.declared.triangle.Winding.{Winding}
use Rattle.cull_base.proofs.Places.{row_below}
use Rattle.masked_update.specs.Canvas.{IsInWindow, MergedMet}
use Rattle.masked_update.specs.Taken.{merged_where}
use Rattle.masked_update.specs.TileOf.{TileOf, no_tile, tile_at}
use Rattle.masked_update.proofs.Best.{pieces_more}
use Rattle.masked_update.proofs.Grid.{number_below}
use Rattle.masked_update.proofs.Tiles.{has, place_of_number, tile_with}
use Rattle.snap_setup.specs.Pieces.{list_of_clips}
use Rattle.maskcull_c.specs.Bands.{AreMerged, IsBand, band_of, first_in}
use Rattle.maskcull_c.specs.Tiles.{AreRows}
use Rattle.maskcull_c.proofs.Merged.{merged_then}

-- tile t of a band stands in its window, and has the number on the screen that is t after that of the first
at_number : (size : Dimensions) (window : TileSpan) (tiles : List TileOf) (t : ℕ) → IsBand size window tiles → t < length tiles
    → IsInWindow size window (first_in size window + t) × (number_in window (tile_place size (first_in size window + t)) ≡ t)
at_number size window tiles t band lt = (record { on_screen = inside; within = ap (has_tile window) place ∙ has window (tile_with column row) (record { row_from = omega (arith); row_before = before; column_from = omega (arith, left); column_before = omega (arith, column_lt, right) }) }, number)
  where
    columns : ℕ
    columns = tile_columns_of size

    row : ℕ
    row = window.first_row + t / columns

    column : ℕ
    column = t % columns

    left : window.first_column ≡ 0
    left = band.from_left

    right : window.end_column ≡ columns
    right = band.to_right

    across : columns_in window ≡ columns
    across = omega (arith, left, right)

    count : t < columns * rows_in window
    count = let whole = band.whole in subst (λ n. t < n * rows_in window) across (omega (arith, whole, lt))

    positive : (c r n : ℕ) → n < c * r → 0 < c
    positive zero r n h = absurd (omega (arith, h))
    positive (suc c) r n h = omega arith

    some : 0 < columns
    some = positive columns (rows_in window) t count

    column_lt : column < columns
    column_lt = mod-lt t some

    below : t / columns < rows_in window
    below = row_below t columns (rows_in window) some count

    before : row < window.end_row
    before = omega (arith, below)

    is : first_in size window + t ≡ row * columns + column
    is = let e = div-add-mod' t columns in omega (arith, e)

    place : tile_place size (first_in size window + t) ≡ tile_with column row
    place = ap (tile_place size) is ∙ place_of_number size row column column_lt

    inside : first_in size window + t < columns * tile_rows_of size
    inside = let n = number_below row (tile_rows_of size) column columns (let within = band.span.rows_within in omega (arith, before, within)) column_lt in omega (arith, is, n)

    number : number_in window (tile_place size (first_in size window + t)) ≡ t
    number =
        let from : row - window.first_row ≡ t / columns = omega arith in
        let to : column - window.first_column ≡ column = omega (arith, left) in
        ap (number_in window) place ∙ ap (λ n. n * columns_in window + (column - window.first_column)) from ∙ ap (λ n. t / columns * n + (column - window.first_column)) across ∙ ap (λ n. t / columns * columns + n) to ∙ div-add-mod' t columns

-- a band into which one piece is merged
pub band_more : (size : Dimensions) (window : TileSpan) (x : Piece) (old new : List TileOf) → IsPiece x → IsBand size window old → length new ≡ length old
    → MergedMet size x (band_of window old) (band_of window new) → AreMerged size (first_in size window) (x ∷ []) old new
band_more size window x old new piece band same met = record {
  whole = same;
  tiles = λ t lt.
      let at = at_number size window old t band lt in
      let n = first_in size window + t in
      sym (ap (tile_at new) at.1) ∙ met.tiles n at.0 ∙ ap (merged_where (meets (box_of x) (tile_rect_of size n)) size n x) (ap (tile_at old) at.1);
  valid = pieces_more [] x (λ t m. absurd (let lt = m.1 in omega (arith, lt))) piece;
}

-- a band that is as long is one too
pub band_still : (size : Dimensions) (window : TileSpan) (old new : List TileOf) → length new ≡ length old → IsBand size window old → IsBand size window new
band_still size window old new same band = record { span = band.span; from_left = band.from_left; to_right = band.to_right; whole = same ∙ band.whole }

-- the first pieces of some are merged into a band, and then the next one
pub merged_more : (size : Dimensions) (window : TileSpan) (all : List Piece) (k : ℕ) (x : Piece) (start old new : List TileOf) → take k all ++ x ∷ [] ≡ take (k + 1) all → IsPiece x → IsBand size window start
    → AreMerged size (first_in size window) (take k all) start old → length new ≡ length old → MergedMet size x (band_of window old) (band_of window new)
    → AreMerged size (first_in size window) (take (k + 1) all) start new
merged_more size window all k x start old new more piece band merged same met =
    subst (λ (ps : List Piece). AreMerged size (first_in size window) ps start new) more
    (merged_then size (first_in size window) (take k all) (x ∷ []) start old new merged (band_more size window x old new piece (band_still size window start old merged.whole band) same met))

-- a band into which the pieces of some triangles are merged, under other names of the screen, the first tile, the near distance and the winding
pub merged_as : (size size' : Dimensions) (first first' top top' near near' : ℕ) (winding winding' : Winding) (clips : List ClipVertex) (tris : List Tri) (old new : List TileOf) → size ≡ size' → first ≡ first' → top ≡ top' → near ≡ near' → winding ≡ winding'
    → AreMerged size first (list_of_clips clips tris top near size winding) old new → AreMerged size' first' (list_of_clips clips tris top' near' size' winding') old new
merged_as size size' first first' top top' near near' winding winding' clips tris old new sizes firsts tops nears windings merged =
    subst (λ (w : Winding). AreMerged size' first' (list_of_clips clips tris top' near' size' w) old new) windings
    (subst (λ n. AreMerged size' first' (list_of_clips clips tris top' n size' winding) old new) nears
    (subst (λ n. AreMerged size' first' (list_of_clips clips tris n near size' winding) old new) tops
    (subst (λ n. AreMerged size' n (list_of_clips clips tris top near size' winding) old new) firsts
    (subst (λ (s : Dimensions). AreMerged s first (list_of_clips clips tris top near s winding) old new) sizes merged))))

-- the tile that is read at a number
pub read_at : (tiles : List TileOf) (n : ℕ) (t : TileOf) → n < length tiles → t ≡ get_or tiles n t → t ≡ tile_at tiles n
read_at tiles n t lt is = is ∙ get_or_default tiles n t no_tile lt

-- the tiles of a band are whole rows of the screen's
pub band_is_rows : (size : Dimensions) (window : TileSpan) (first_row : ℕ) (tiles : List TileOf) → IsBand size window tiles → window.first_row ≡ first_row → AreRows size first_row tiles
band_is_rows size window first_row tiles band is =
    let columns : columns_in window ≡ tile_columns_of size = omega (arith, band.from_left, band.to_right) in record {
      rows = rows_in window;
      whole = band.whole ∙ ap (λ n. n * rows_in window) columns ∙ mul_comm (tile_columns_of size) (rows_in window);
      within = omega (arith, band.span.rows, band.span.rows_within, is);
    }

-- A piece whose box has no pixel in a tile changes nothing there.
use Rattle.std.proofs.Common.{◌≡◌, ℕ, ℤ, pos, negsuc, ◌+◌, ◌*◌, ◌<◌, ◌≤◌, ◌≤ℤ◌, ◌/◌, ◌%◌, arith, true, false, min, nat_lt, List, length, slice_index_or}
use Rattle.std.specs.Int.{int_min, int_max}
use Rattle.std.proofs.lemmas.Int.{ints, clamps}
use Rattle.std.proofs.lemmas.Bool.{both_ways, and_parts, ltb-true, false_from_ne_true}
use Rattle.cull_base.specs.Piece.{Piece, IsPiece, covers, sample, box_of, least_of, greatest_of, first_pixel, end_pixel}
use Rattle.cull_base.specs.Rectangle.{HasPixel, meets}
use Rattle.cull_base.specs.Screen.{Dimensions, IsSize, tile_place, tile_rect_of, tile_sub, is_on_screen}
use Rattle.cull_base.specs.State.{State}
use Rattle.masked_update.specs.Merged.{sub_rect_of}
use Rattle.cull_base.specs.Fold.{step}
use Rattle.cull_base.specs.declared.place.Sub.{Sub}
use Rattle.cull_base.specs.declared.rect.Rect.{Rect}
use Rattle.cull_base.proofs.Extents.{least_of_three, greatest_of_three}
use Rattle.cull_base.proofs.Rectangles.{meets_pixel}
use Rattle.depth_plane.proofs.Boxes.{covers-in_box}
use Rattle.masked_update.proofs.Unchanged.{step_unless_covered}

-- a sample of a subtile on the screen lies in the tile's rectangle
pub in_tile : (size : Dimensions) (tile j k : ℕ) → IsSize size.width size.height → j < 8 → k < 32 → is_on_screen size (tile_sub size tile j) ≡ true
    → let u = tile_sub size tile j in HasPixel (tile_rect_of size tile) (pos (8 * u.column + k % 8)) (pos (4 * u.row + k / 8))
in_tile size tile j k valid hj hk on =
    let place = tile_place size tile in
    let lt = and_parts (nat_lt (8 * (tile_sub size tile j).column) size.width) (nat_lt (4 * (tile_sub size tile j).row) size.height) on in
    let x = across place.column size.width j k valid.whole_columns (ltb-true _ _ lt.0) in
    let y = down place.row size.height j k hj hk valid.whole_rows (ltb-true _ _ lt.1) in
    (omega (arith, ints, x.0), omega (arith, ints, x.1), omega (arith, ints, y.0), omega (arith, ints, y.1))
  where
    across : (c w j k : ℕ) → w % 8 ≡ 0 → 8 * (4 * c + j % 4) < w → (32 * c ≤ 8 * (4 * c + j % 4) + k % 8) × (8 * (4 * c + j % 4) + k % 8 < min (32 * c + 32) w)
    across c w j k e lt = (omega arith, omega arith)

    down : (r h j k : ℕ) → j < 8 → k < 32 → h % 4 ≡ 0 → 4 * (2 * r + j / 4) < h → (8 * r ≤ 4 * (2 * r + j / 4) + k / 8) × (4 * (2 * r + j / 4) + k / 8 < min (8 * r + 8) h)
    down r h j k hj hk e lt = (omega arith, omega arith)

-- a piece whose box shares no pixel with a rectangle covers no sample there
not_covered : (t : Piece) (r : Rect) (u : Sub) (k : ℕ) → IsPiece t → meets (box_of t) r ≡ false → HasPixel r (pos (8 * u.column + k % 8)) (pos (4 * u.row + k / 8)) → covers t (sample u k) ≡ false
not_covered t r u k piece off within =
    let x = 8 * u.column + k % 8 in
    let y = 4 * u.row + k / 8 in
    false_from_ne_true _ (λ c. both_ways (meets (box_of t) r) off ((meets_pixel (box_of t) r).1 (pos x, pos y, covers-in_box t x y piece c, within)))

-- a piece whose box has no pixel in the tile changes none of its subtiles on the screen
pub step_outside : (size : Dimensions) (tile j : ℕ) (s : State) (t : Piece) → IsSize size.width size.height → IsPiece t → meets (box_of t) (tile_rect_of size tile) ≡ false
    → j < 8 → is_on_screen size (tile_sub size tile j) ≡ true → step (tile_sub size tile j) s t ≡ s
step_outside size tile j s t valid piece off hj on =
    let u = tile_sub size tile j in
    step_unless_covered u s t
    (λ k below c. absurd (both_ways (covers t (sample u k)) (not_covered t (tile_rect_of size tile) u k piece off (in_tile size tile j k valid hj below on)) c))

-- a piece whose box has no pixel in a subtile changes nothing there
pub step_apart : (u : Sub) (s : State) (t : Piece) → IsPiece t → meets (box_of t) (sub_rect_of u) ≡ false → step u s t ≡ s
step_apart u s t piece off = step_unless_covered u s t (λ k below c. absurd (both_ways (covers t (sample u k)) (not_covered t (sub_rect_of u) u k piece off (in_sub k below)) c))
  where
    in_sub : (k : ℕ) → k < 32 → HasPixel (sub_rect_of u) (pos (8 * u.column + k % 8)) (pos (4 * u.row + k / 8))
    in_sub k h = (omega (arith, ints), omega (arith, ints), omega (arith, ints), omega (arith, ints))

-- the first corner of a piece's box isn't past the second
pub box_ordered : (t : Piece) → IsPiece t → let r = box_of t in (r.x0 ≤ℤ r.x1) × (r.y0 ≤ℤ r.y1)
box_ordered t piece = (ordered t.xs piece.three_x, ordered t.ys piece.three_y)
  where
    less : (a b c : ℤ) → first_pixel (int_min (int_min a b) c) ≤ℤ end_pixel (int_max (int_max a b) c)
    less a b c = pixels (int_min (int_min a b) c) (int_max (int_max a b) c) (omega (arith, ints, clamps))
      where
        pixels : (low high : ℤ) → low ≤ℤ high → first_pixel low ≤ℤ end_pixel high
        pixels (pos m) (pos n) le = omega (arith, ints, le)
        pixels (negsuc m) (pos n) le = omega (arith, ints)
        pixels (negsuc m) (negsuc n) le = omega (arith, ints, le)
        pixels (pos m) (negsuc n) le = absurd (omega (arith, ints, le))

    ordered : (vs : List ℤ) → length vs ≡ 3 → first_pixel (least_of vs) ≤ℤ end_pixel (greatest_of vs)
    ordered vs three = rw (← least_of_three vs three, ← greatest_of_three vs three) (less (slice_index_or vs 0 (pos 0)) (slice_index_or vs 1 (pos 0)) (slice_index_or vs 2 (pos 0)))

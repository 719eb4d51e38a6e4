-- The lines of pixels, subtile by subtile, tile by tile and row by row.
use Rattle.std.proofs.Common.{◌≡◌, ℕ, ◌+◌, ◌-◌, ◌*◌, ◌/◌, ◌%◌, ◌<◌, ◌≤◌, ◌++◌, min, List, refl, arith, ap, sym, ◌∙◌}
use Rattle.std.specs.Int.{div_ceil}
use Rattle.std.proofs.lemmas.List.{append-nil}
use Rattle.cull_base.specs.declared.nearness.Grade.{Grade}
use Rattle.cull_base.specs.declared.place.Sub.{Sub}
use Rattle.cull_base.specs.Grade.{top_of}
use Rattle.cull_base.specs.Pixels.{sample_of_pixel, sub_of_pixel}
use Rattle.cull_base.specs.Screen.{Dimensions, tile_columns_of, tile_count_of, tile_rows_of}
use Rattle.cull_base.specs.State.{State, bound_at}
use Rattle.cull_base.proofs.Pixels.{tile_below}
use Rattle.masked_update.specs.TileOf.{TileOf, sub_at}
use Rattle.masked_update.specs.Views.{state_in}
use Rattle.depth_image.specs.Picture.{AreUpTo, bound_of_pixel, number_line, pixel_lines, row_lines, shade_at}
use Rattle.depth_image.specs.Samples.{cut_shade, sample_lines, subs_of_tile}
use Rattle.depth_image.proofs.Numbers.{shade_uncut}
use Rattle.depth_image.proofs.Ranges.{alike, joined, joined_one}

-- ---- lines that follow one another

pub pixels_none : (text : List ℕ) (grade : Grade) (states : Sub → State) (y first : ℕ) → text ≡ text ++ pixel_lines grade states y first 0
unfolding pixel_lines
pixels_none text grade states y first = sym (append-nil text)

pub pixels_then : (grade : Grade) (states : Sub → State) (y first m n : ℕ) → pixel_lines grade states y first (m + n) ≡ pixel_lines grade states y first m ++ pixel_lines grade states y (first + m) n
unfolding pixel_lines
pixels_then grade states y first m n = joined (λ px. number_line (shade_at grade states px y)) first m n

pub rows_none : (text : List ℕ) (width : ℕ) (grade : Grade) (states : Sub → State) (first : ℕ) → text ≡ text ++ row_lines width grade states first 0
unfolding row_lines
rows_none text width grade states first = sym (append-nil text)

pub rows_more : (width : ℕ) (grade : Grade) (states : Sub → State) (first n : ℕ) → row_lines width grade states first (n + 1) ≡ row_lines width grade states first n ++ pixel_lines grade states (first + n) 0 width
unfolding row_lines
rows_more width grade states first n = joined_one (λ py. pixel_lines grade states py 0 width) first n

pub rows_then : (width : ℕ) (grade : Grade) (states : Sub → State) (first m n : ℕ) → row_lines width grade states first (m + n) ≡ row_lines width grade states first m ++ row_lines width grade states (first + m) n
unfolding row_lines
rows_then width grade states first m n = joined (λ py. pixel_lines grade states py 0 width) first m n

-- ---- a pixel's tile, subtile and sample

-- the tile of a row of pixels and a column of tiles is among those of the screen
pub number_within : (size : Dimensions) (y column row columns : ℕ) → y < size.height → column < tile_columns_of size → row ≡ y → columns ≡ tile_columns_of size → row / 8 * columns + column < tile_count_of size
number_within size y column row columns lt below er ec = rw (er, ec) (tile_below (y / 8) (tile_rows_of size) column (tile_columns_of size) (row_below size.height y lt) below)
  where
    row_below : (h y : ℕ) → y < h → y / 8 < div_ceil h 8
    row_below h y lt = omega arith

-- its subtile, by the numbers that the code took
pub sub_is : (size : Dimensions) (tile_of : ℕ → TileOf) (y column k row columns : ℕ) (t : TileOf) (s : State) → row ≡ y → columns ≡ tile_columns_of size → t ≡ tile_of (row / 8 * columns + column) → s ≡ sub_at t (4 * (row / 4 % 2) + k)
    → s ≡ sub_at (tile_of (y / 8 * tile_columns_of size + column)) (4 * (y / 4 % 2) + k)
sub_is size tile_of y column k row columns t s er ec et es =
    es ∙ ap (λ (u : TileOf). sub_at u (4 * (row / 4 % 2) + k)) et ∙ ap (λ (r : ℕ). sub_at (tile_of (r / 8 * columns + column)) (4 * (r / 4 % 2) + k)) er
    ∙ ap (λ (n : ℕ). sub_at (tile_of (y / 8 * n + column)) (4 * (y / 4 % 2) + k)) ec

-- the state of a pixel's subtile is that of the subtile in its tile
pub state_is : (size : Dimensions) (tile_of : ℕ → TileOf) (y column k x i : ℕ) → k < 4 → i < 8 → x ≡ (32 * column + 8 * k) + i
    → state_in size tile_of (sub_of_pixel x y) ≡ sub_at (tile_of (y / 8 * tile_columns_of size + column)) (4 * (y / 4 % 2) + k)
state_is size tile_of y column k x i lt below e =
    let row : y / 4 / 2 ≡ y / 8 = omega arith in
    let tile : x / 8 / 4 ≡ column = omega (arith, e, lt, below) in
    let sub : x / 8 % 4 ≡ k = omega (arith, e, lt, below) in
    ap (λ (r : ℕ). sub_at (tile_of (r * tile_columns_of size + x / 8 / 4)) (4 * (y / 4 % 2) + x / 8 % 4)) row
    ∙ ap (λ (n : ℕ). sub_at (tile_of (y / 8 * tile_columns_of size + n)) (4 * (y / 4 % 2) + x / 8 % 4)) tile
    ∙ ap (λ (n : ℕ). sub_at (tile_of (y / 8 * tile_columns_of size + column)) (4 * (y / 4 % 2) + n)) sub

-- the lines of a row of samples are those of eight pixels
pub eight_pixels : (size : Dimensions) (grade : Grade) (tile_of : ℕ → TileOf) (y column k : ℕ) (s : State) → AreUpTo (top_of grade) size (state_in size tile_of) → y < size.height → k < 4 → (32 * column + 8 * k) + 8 ≤ size.width
    → s ≡ sub_at (tile_of (y / 8 * tile_columns_of size + column)) (4 * (y / 4 % 2) + k) → sample_lines grade s (8 * (y % 4)) 8 ≡ pixel_lines grade (state_in size tile_of) y (32 * column + 8 * k) 8
unfolding sample_lines pixel_lines
eight_pixels size grade tile_of y column k s within lt few fits is =
    alike (λ j. number_line (cut_shade grade (bound_at s j))) (λ px. number_line (shade_at grade (state_in size tile_of) px y)) (8 * (y % 4)) (32 * column + 8 * k) 8
    (λ i below. at ((32 * column + 8 * k) + i) i below refl)
  where
    at : (x i : ℕ) → i < 8 → x ≡ (32 * column + 8 * k) + i → number_line (cut_shade grade (bound_at s (8 * (y % 4) + i))) ≡ number_line (shade_at grade (state_in size tile_of) x y)
    at x i below e =
        let state = is ∙ sym (state_is size tile_of y column k x i few below e) in
        let place : 8 * (y % 4) + i ≡ sample_of_pixel x y = omega (arith, below, e) in
        let bound : bound_at s (8 * (y % 4) + i) ≡ bound_of_pixel (state_in size tile_of) x y =
        ap (λ (t : State). bound_at t (8 * (y % 4) + i)) state ∙ ap (λ (j : ℕ). bound_at (state_in size tile_of (sub_of_pixel x y)) j) place in
        ap (λ (b : ℕ). number_line (cut_shade grade b)) bound
        ∙ ap number_line (shade_uncut grade (bound_of_pixel (state_in size tile_of) x y) (within x y (omega (arith, below, e, fits)) lt))

-- ---- how many pixels of a row the first columns of tiles have

pub pixels_next : (size : Dimensions) (column : ℕ) → size.width % 8 ≡ 0 → column < tile_columns_of size → min (32 * column) size.width + 8 * subs_of_tile size column ≡ min (32 * (column + 1)) size.width
pixels_next size column whole lt = by size.width whole lt
  where
    by : (w : ℕ) → w % 8 ≡ 0 → column < div_ceil w 32 → min (32 * column) w + 8 * min (w / 8 - 4 * column) 4 ≡ min (32 * (column + 1)) w
    by w e below = omega (arith, e, below)

pub pixels_before : (size : Dimensions) (column : ℕ) → column < tile_columns_of size → min (32 * column) size.width ≡ 32 * column
pixels_before size column lt = by size.width lt
  where
    by : (w : ℕ) → column < div_ceil w 32 → min (32 * column) w ≡ 32 * column
    by w below = omega (arith, below)

pub pixels_all : (size : Dimensions) (column : ℕ) → tile_columns_of size ≤ column → min (32 * column) size.width ≡ size.width
pixels_all size column le = by size.width le
  where
    by : (w : ℕ) → div_ceil w 32 ≤ column → min (32 * column) w ≡ w
    by w past = omega (arith, past)

-- a tile of a row has room where the row has
pub tile_room : (size : Dimensions) (column long begun : ℕ) → column < tile_columns_of size → long ≤ begun + 6 * min (32 * column) size.width → begun + 6 * size.width ≤ 24656 → long + 48 * subs_of_tile size column ≤ 24656
tile_room size column long begun lt so_far room = by size.width lt so_far room
  where
    by : (w : ℕ) → column < div_ceil w 32 → long ≤ begun + 6 * min (32 * column) w → begun + 6 * w ≤ 24656 → long + 48 * min (w / 8 - 4 * column) 4 ≤ 24656
    by w below far fits = omega (arith, below, far, fits)

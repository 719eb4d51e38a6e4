-- Pixels by tile, subtile and sample.
use Rattle.std.proofs.Common.{◌≡◌, ℕ, pos, ◌+◌, ◌*◌, ◌/◌, ◌%◌, ◌<◌, ◌≤◌, suc, refl, arith, ap, ◌∙◌, true, nat_lt}
use Rattle.std.specs.Int.{div_ceil}
use Rattle.std.proofs.lemmas.Bool.Decides.{nat_tests}
use Rattle.std.proofs.lemmas.Int.{ints}
use Rattle.std.proofs.lemmas.Nat.{div-mul-add}
use Rattle.std.proofs.Math.Nat.{mul-le-mul_right, mul-add-mod_self_right, mod-eq_of_lt}
use Rattle.cull_base.specs.declared.place.Sub.{Sub}
use Rattle.cull_base.specs.declared.place.Tile.{Tile}
use Rattle.cull_base.specs.Piece.{middle, sample}
use Rattle.cull_base.specs.Pixels.{sub_of_pixel, sample_of_pixel, tile_of_pixel}
use Rattle.cull_base.specs.Rectangle.{HasPixel}
use Rattle.cull_base.specs.Screen.{Dimensions, is_on_screen, tile_columns_of, tile_rows_of, tile_count_of, tile_place, tile_rect_of, tile_sub}

-- a tile of a row that lies in the screen
pub tile_below : (row rows column columns : ℕ) → row < rows → column < columns → row * columns + column < columns * rows
tile_below row rows column columns lt below =
    let le : suc row * columns ≤ rows * columns = mul-le-mul_right columns (omega arith) in
    omega arith

pub sample_below : (px py : ℕ) → sample_of_pixel px py < 32
sample_below px py = omega arith

pub column_of_sample : (column k : ℕ) → (8 * column + k % 8) / 8 ≡ column
column_of_sample column k = omega arith

pub row_of_sample : (row k : ℕ) → k < 32 → (4 * row + k / 8) / 4 ≡ row
row_of_sample row k lt = omega arith

pub sample_of_sample : (column row k : ℕ) → k < 32 → sample_of_pixel (8 * column + k % 8) (4 * row + k / 8) ≡ k
sample_of_sample column row k lt = omega arith

-- the number of the tile of a pixel's subtile
pub tile_is : (px py row column columns c : ℕ) → columns ≡ c → px / 32 ≡ column → py / 8 ≡ row → py / 4 / 2 * c + px / 8 / 4 ≡ row * columns + column
tile_is px py row column columns c e f g =
    let r : py / 4 / 2 ≡ row = omega arith in let k : px / 8 / 4 ≡ column = omega arith in
    rw (r, k, e) refl

-- the sample of a pixel stands in its middle
pub sample_is_middle : (px py : ℕ) → sample (sub_of_pixel px py) (sample_of_pixel px py) ≡ middle px py
sample_is_middle px py =
    let x : 8 * (px / 8) + (8 * (py % 4) + px % 8) % 8 ≡ px = omega arith in
    let y : 4 * (py / 4) + (8 * (py % 4) + px % 8) / 8 ≡ py = omega arith in
    rw (x, y) refl

-- the tile of a pixel of the screen: its number, its place and its pixels
pub record IsTileOf (size : Dimensions) (px py : ℕ) : Type 0 where
  pub within : tile_of_pixel size px py < tile_count_of size
  pub place : tile_place size (tile_of_pixel size px py) ≡ record { column = px / 32; row = py / 8 }
  pub pixel : HasPixel (tile_rect_of size (tile_of_pixel size px py)) (pos px) (pos py)

pub tile_of_pixel-is : (size : Dimensions) (px py : ℕ) → px < size.width → py < size.height → IsTileOf size px py
tile_of_pixel-is size px py x y =
    let columns = tile_columns_of size in
    let column = column_below size.width px x in
    let at_row = div-mul-add (py / 8) columns (px / 32) column in
    let at_column : (py / 8 * columns + px / 32) % columns ≡ px / 32 = mul-add-mod_self_right (py / 8) columns (px / 32) ∙ mod-eq_of_lt column in
    record {
      within = tile_below (py / 8) (tile_rows_of size) (px / 32) columns (row_below size.height py y) column;
      place = rw (at_row, at_column) refl;
      pixel = rw (at_row, at_column) (omega (arith, ints), omega (arith, ints, x), omega (arith, ints), omega (arith, ints, y));
    }
  where
    column_below : (w px : ℕ) → px < w → px / 32 < div_ceil w 32
    column_below w px lt = omega arith

    row_below : (h py : ℕ) → py < h → py / 8 < div_ceil h 8
    row_below h py lt = omega arith

-- the number of a pixel's subtile in its tile
abbrev pub place_in_tile : ℕ → ℕ → ℕ
place_in_tile px py = 4 * (py / 4 % 2) + px / 8 % 4

-- the subtile of a pixel, as that of its tile
pub sub_is : (size : Dimensions) (px py : ℕ) → px < size.width → py < size.height → tile_sub size (tile_of_pixel size px py) (place_in_tile px py) ≡ sub_of_pixel px py
sub_is size px py x y =
    let tile = tile_of_pixel-is size px py x y in
    let c : 4 * (px / 32) + (4 * (py / 4 % 2) + px / 8 % 4) % 4 ≡ px / 8 = omega arith in
    let r : 2 * (py / 8) + (4 * (py / 4 % 2) + px / 8 % 4) / 4 ≡ py / 4 = omega arith in
    ap (λ (p : Tile). of_place p) tile.place ∙ rw (c, r) refl
  where
    of_place : Tile → Sub
    of_place p = record { column = 4 * p.column + place_in_tile px py % 4; row = 2 * p.row + place_in_tile px py / 4 }

pub on_screen : (size : Dimensions) (px py : ℕ) → px < size.width → py < size.height → is_on_screen size (sub_of_pixel px py) ≡ true
on_screen size px py x y =
    let a : nat_lt (8 * (px / 8)) size.width ≡ true = grind (arith, nat_tests) in
    let b : nat_lt (4 * (py / 4)) size.height ≡ true = grind (arith, nat_tests) in
    rw (a, b) refl

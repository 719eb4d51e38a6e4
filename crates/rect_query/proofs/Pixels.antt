-- The pixels of an area by subtile and tile.
use Rattle.std.proofs.Common.{◌≡◌, ℕ, ◌+◌, ◌*◌, ◌/◌, ◌%◌, ◌<◌, ◌≤◌, ◌&&◌, true, max, arith}
use Rattle.std.proofs.lemmas.Bool.Decides.{nat_tests}
use Rattle.cull_base.specs.Span.{is_between}
use Rattle.rect_query.specs.declared.area.Area.{Area}
use Rattle.rect_query.specs.Area.{IsIn, is_sample_in}
use Rattle.cull_base.specs.Pixels.{sample_of_pixel}

-- the sample of a pixel of the area is one of its subtile's that are in the area
pub pixel_is_in : (a : Area) (px py column row : ℕ) → IsIn a px py → px / 8 ≡ column → py / 4 ≡ row → is_sample_in a column row (sample_of_pixel px py) ≡ true
pixel_is_in a px py column row h c r =
    let x : 8 * column + (8 * (py % 4) + px % 8) % 8 ≡ px = omega arith in
    let y : 4 * row + (8 * (py % 4) + px % 8) / 8 ≡ py = omega arith in
    rw (x, y) (both a.x0 a.x1 a.y0 a.y1 px py h.left h.right h.above h.below)
  where
    both : (x0 x1 y0 y1 x y : ℕ) → x0 ≤ x → x < x1 → y0 ≤ y → y < y1 → (is_between x0 x1 x && is_between y0 y1 y) ≡ true
    both x0 x1 y0 y1 x y p q r s = grind (arith, nat_tests)

-- and each of these is the sample of such a pixel
pub pixel_of_sample : (a : Area) (column row k : ℕ) → k < 32 → is_sample_in a column row k ≡ true → IsIn a (8 * column + k % 8) (4 * row + k / 8)
pixel_of_sample a column row k lt e = parts a.x0 a.x1 a.y0 a.y1 (8 * column + k % 8) (4 * row + k / 8) e
  where
    parts : (x0 x1 y0 y1 x y : ℕ) → (is_between x0 x1 x && is_between y0 y1 y) ≡ true → let b : Area = record { x0 = x0; x1 = x1; y0 = y0; y1 = y1 } in IsIn b x y
    parts x0 x1 y0 y1 x y e = record { left = grind (arith, nat_tests); right = grind (arith, nat_tests); above = grind (arith, nat_tests); below = grind (arith, nat_tests) }

-- a tile between the area's first and last has a pixel of the area
pub pixel_of_tile : (a : Area) (column row : ℕ) → a.x0 < a.x1 → a.y0 < a.y1 → a.x0 / 32 ≤ column → 32 * column < a.x1 → a.y0 / 8 ≤ row → 8 * row < a.y1
    → IsIn a (max a.x0 (32 * column)) (max a.y0 (8 * row))
pixel_of_tile a column row wide high c0 c1 r0 r1 = record { left = omega arith; right = omega arith; above = omega arith; below = omega arith }

pub column_of_tile : (x0 column : ℕ) → x0 / 32 ≤ column → max x0 (32 * column) / 32 ≡ column
column_of_tile x0 column le = omega arith

pub row_of_tile : (y0 row : ℕ) → y0 / 8 ≤ row → max y0 (8 * row) / 8 ≡ row
row_of_tile y0 row le = omega arith

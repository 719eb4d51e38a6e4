-- The pixels of the screen that a rectangle has, and what it means that their samples hide a nearness.
use Rattle.std.specs.Prelude.{ℕ, ◌≡◌, ◌+◌, ◌*◌, ◌/◌, ◌%◌, ◌<◌, ◌≤◌, Bool, true, ◌&&◌}
use Rattle.cull_base.specs.declared.rect.Rect.{Rect}
use Rattle.cull_base.specs.Screen.{Dimensions}
use Rattle.cull_base.specs.Span.{is_between}
use Rattle.cull_base.specs.State.{State, hides}
use Rattle.cull_base.specs.Pixels.{sub_of_pixel, sample_of_pixel, has_pixel, tile_of_pixel}
use Rattle.masked_update.specs.TileOf.{TileOf, sub_at}
use Rattle.masked_update.specs.Views.{state_in}
use Rattle.rect_query.specs.declared.area.Area.{Area}

pub record IsIn (a : Area) (px py : ℕ) : Type 0 where
  pub left : a.x0 ≤ px
  pub right : px < a.x1
  pub above : a.y0 ≤ py
  pub below : py < a.y1

-- some pixels of the screen, at least one
pub record IsArea (a : Area) (size : Dimensions) : Type 0 where
  pub wide : a.x0 < a.x1
  pub high : a.y0 < a.y1
  pub width_within : a.x1 ≤ size.width
  pub height_within : a.y1 ≤ size.height
  pub width_small : a.x1 ≤ 2048
  pub height_small : a.y1 ≤ 2048

-- the area has the pixels of the screen that the rectangle has
pub record IsAreaOf (a : Area) (r : Rect) (size : Dimensions) : Type 0 where
  pub area : IsArea a size
  pub has : (px py : ℕ) → IsIn a px py → has_pixel r px py ≡ true
  pub from : (px py : ℕ) → px < size.width → py < size.height → has_pixel r px py ≡ true → IsIn a px py

-- a view holds the tile of each pixel of an area
abbrev pub HoldsArea : (ℕ → Bool) → Dimensions → Area → Type 0
HoldsArea held size a = (px py : ℕ) → IsIn a px py → held (tile_of_pixel size px py) ≡ true

-- sample k of the subtile in a column and a row is that of a pixel of the area
abbrev pub is_sample_in : Area → ℕ → ℕ → ℕ → Bool
is_sample_in a column row k = is_between a.x0 a.x1 (8 * column + k % 8) && is_between a.y0 a.y1 (4 * row + k / 8)

-- the area's samples in the subtile of a column and a row hide q
abbrev pub SubHides : State → ℕ → ℕ → Area → ℕ → Type 0
SubHides s column row a q = (px py : ℕ) → IsIn a px py → px / 8 ≡ column → py / 4 ≡ row → hides s (sample_of_pixel px py) q ≡ true

-- the same for the subtiles of a tile in one row of subtiles, and for a tile
abbrev pub SubRowHides : TileOf → ℕ → ℕ → Area → ℕ → Type 0
SubRowHides t column row a q =
    (px py : ℕ) → IsIn a px py → px / 32 ≡ column → py / 4 ≡ row
    → hides (sub_at t (4 * (py / 4 % 2) + px / 8 % 4)) (sample_of_pixel px py) q ≡ true

abbrev pub TileHides : TileOf → ℕ → ℕ → Area → ℕ → Type 0
TileHides t column row a q =
    (px py : ℕ) → IsIn a px py → px / 32 ≡ column → py / 8 ≡ row
    → hides (sub_at t (4 * (py / 4 % 2) + px / 8 % 4)) (sample_of_pixel px py) q ≡ true

-- the same for a row of tiles, and for all
abbrev pub TileRowHides : Dimensions → (ℕ → TileOf) → ℕ → Area → ℕ → Type 0
TileRowHides size tile_of row a q =
    (px py : ℕ) → IsIn a px py → py / 8 ≡ row
    → hides (state_in size tile_of (sub_of_pixel px py)) (sample_of_pixel px py) q ≡ true

abbrev pub HidesArea : Dimensions → (ℕ → TileOf) → Area → ℕ → Type 0
HidesArea size tile_of a q =
    (px py : ℕ) → IsIn a px py → hides (state_in size tile_of (sub_of_pixel px py)) (sample_of_pixel px py) q ≡ true

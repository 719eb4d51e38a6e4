-- Rectangles of whole pixels, half-open: from the first corner to before the second.
use Rattle.std.specs.Prelude.{ℤ, pos, ◌≤ℤ◌, ◌<ℤ◌, Bool, int_lt, ◌&&◌, cond}
use Rattle.std.specs.Int.{int_min, int_max}
use Rattle.cull_base.specs.declared.rect.Rect.{Rect}

-- the pixel (x, y) is in the rectangle
abbrev pub HasPixel : Rect → ℤ → ℤ → Type 0
HasPixel r x y = (r.x0 ≤ℤ x) × (x <ℤ r.x1) × (r.y0 ≤ℤ y) × (y <ℤ r.y1)

-- some pixel is in both
abbrev pub meets : Rect → Rect → Bool
meets a b = int_lt (int_max a.x0 b.x0) (int_min a.x1 b.x1) && int_lt (int_max a.y0 b.y0) (int_min a.y1 b.y1)

abbrev pub no_pixels : Rect
no_pixels = record { x0 = pos 0; y0 = pos 0; x1 = pos 0; y1 = pos 0 }

-- the pixels in both
abbrev pub common : Rect → Rect → Rect
common a b = record { x0 = int_max a.x0 b.x0; y0 = int_max a.y0 b.y0; x1 = int_min a.x1 b.x1; y1 = int_min a.y1 b.y1 }

-- the pixels in both, and one fixed rectangle where there are none
abbrev pub cut_of : Rect → Rect → Rect
cut_of a b = cond (meets a b) (common a b) no_pixels

-- a rectangle whose sides lie between those of another
pub record IsWithin (a b : Rect) : Type 0 where
  pub x0 : b.x0 ≤ℤ a.x0
  pub y0 : b.y0 ≤ℤ a.y0
  pub x1 : a.x1 ≤ℤ b.x1
  pub y1 : a.y1 ≤ℤ b.y1

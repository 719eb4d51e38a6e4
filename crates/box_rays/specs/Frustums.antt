-- What is seen in a rectangle of pixels.
use Rattle.std.specs.Prelude.{ℕ, pos, ◌≡◌, ◌<◌, ◌≤ℤ◌, ◌⊎◌, true}
use Rattle.cull_base.specs.Pixels.{has_pixel}
use Rattle.cull_base.specs.Screen.{Dimensions}
use Rattle.cull_base.specs.declared.rect.Rect.{Rect}
use Rattle.exact_clip.specs.Clip.{Clip}
use Rattle.box_rays.specs.HalfSpaces.{IsIn, IsNarrow}
use Rattle.box_rays.specs.Objects.{Projects}
use Rattle.box_rays.specs.declared.frustum.Frustum.{Frustum}

-- a rectangle reaches no further than the screen
pub record IsOnScreen (size : Dimensions) (rect : Rect) : Type 0 where
  pub x0_least : pos 0 ≤ℤ rect.x0
  pub x0_most : rect.x0 ≤ℤ pos size.width
  pub y0_least : pos 0 ≤ℤ rect.y0
  pub y0_most : rect.y0 ≤ℤ pos size.height
  pub x1_least : pos 0 ≤ℤ rect.x1
  pub x1_most : rect.x1 ≤ℤ pos size.width
  pub y1_least : pos 0 ≤ℤ rect.y1
  pub y1_most : rect.y1 ≤ℤ pos size.height

-- a rectangle without a pixel
abbrev pub IsEmpty : Rect → Type 0
IsEmpty rect = (rect.x1 ≤ℤ rect.x0) ⊎ (rect.y1 ≤ℤ rect.y0)

pub record AreNarrow (f : Frustum) : Type 0 where
  pub left : IsNarrow f.left
  pub right : IsNarrow f.right
  pub upper : IsNarrow f.upper
  pub lower : IsNarrow f.lower

pub record IsWithin (f : Frustum) (p : Clip) : Type 0 where
  pub left : IsIn f.left p
  pub right : IsIn f.right p
  pub upper : IsIn f.upper p
  pub lower : IsIn f.lower p

-- where a point within is seen in a pixel of the screen, the rectangle has the pixel
abbrev pub Frames : Dimensions → Rect → Frustum → Type 0
Frames size rect f = (px py : ℕ) (p : Clip) → px < size.width → py < size.height → IsWithin f p → Projects size px py p → has_pixel rect px py ≡ true

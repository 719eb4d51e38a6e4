-- From clip space to the screen: coordinates in sixteenths of a pixel, and nearness.
use Rattle.std.specs.Prelude.{◌≡◌, ℕ, ℤ, pos, neg_ℤ, ◌*◌, ◌-◌, ◌^◌, ◌≤◌, ◌≤ℤ◌, ◌+ℤ◌, ◌-ℤ◌, ◌*ℤ◌}
use Rattle.std.specs.Int.RustNames.{unsigned_abs}
use Rattle.cull_base.specs.declared.triangle.Side.{Side}
use Rattle.cull_base.specs.declared.triangle.Side.TheVariants.{Occluder, Object}
use Rattle.cull_base.specs.declared.nearness.TheConstants.{HELD_TOP}
use Rattle.cull_base.specs.Screen.{Dimensions}
use Rattle.cull_base.specs.Bounds.{Bounded}
use Rattle.cull_base.specs.Piece.{IsCoordinate}
use Rattle.cull_base.specs.Depth.{floor_of, ceiling_of}
use Rattle.near_clip.specs.declared.hom_point.HomPoint.{HomPoint}
use Rattle.near_clip.specs.Reach.{WithinScaled}
use Rattle.snap_setup.specs.declared.snapping.Place.{Place}
use Rattle.snap_setup.specs.declared.snapping.Snapped.{Snapped}

-- The floor of n/d + 1/2, where d is positive. It is that of (2n + d)/2d.
abbrev pub round_half : ℤ → ℤ → ℤ
round_half n d = floor_of ((pos 2 *ℤ n) +ℤ d) (pos 2 *ℤ d)

-- A screen of so many pixels reaches from -w to w, in sixteenths of a pixel.
abbrev pub screen_x : HomPoint → Dimensions → ℤ
screen_x p size = round_half (pos (8 * size.width) *ℤ (p.x +ℤ p.w)) p.w

-- y runs downwards on the screen
abbrev pub screen_y : HomPoint → Dimensions → ℤ
screen_y p size = round_half (pos (8 * size.height) *ℤ (p.w -ℤ p.y)) p.w

-- an occluder is never held to be nearer than it is, an object never farther
abbrev pub rounded_by : Side → ℤ → ℤ → ℤ
rounded_by Occluder n d = floor_of n d
rounded_by Object n d = ceiling_of n d

-- what is added to a numerator so that its quotient by w is rounded so
abbrev pub addend_of : Side → ℕ → ℕ
addend_of Occluder w = 0
addend_of Object w = w - 1

-- top * near * scale / w, in whole numbers: the top is the nearness of the near distance
abbrev pub nearness_of : HomPoint → ℕ → ℕ → Side → ℕ
nearness_of p top near side = unsigned_abs (rounded_by side (pos (top * near) *ℤ p.scale) p.w)

abbrev pub place_of : HomPoint → Dimensions → Place
place_of p size = record { x = screen_x p size; y = screen_y p size }

unfoldable pub snapped : HomPoint → ℕ → ℕ → Dimensions → Side → Snapped
snapped p top near size side = record { x = screen_x p size; y = screen_y p size; q = nearness_of p top near side }

-- in front of the viewer, with w and the coordinates small enough for the sums of snapping
pub record IsInSight (p : HomPoint) : Type 0 where
  pub w_least : pos 1 ≤ℤ p.w
  pub w_most : p.w ≤ℤ pos (2 ^ 49)
  pub x_beside : WithinScaled 16384 p.w p.x
  pub y_beside : WithinScaled 16384 p.w p.y
  pub x_bounded : Bounded (2 ^ 49) p.x
  pub y_bounded : Bounded (2 ^ 49) p.y

-- An offset on a scale of so many pixels from 0 to twice w: it lies at most 16385 times w away from 0, and w is at most `most`.
pub record IsOnScale (pixels : ℕ) (offset w : ℤ) (doubled most : ℕ) : Type 0 where
  pub within : pixels ≤ 2048
  pub low : neg_ℤ (pos 16385 *ℤ w) ≤ℤ offset
  pub high : offset ≤ℤ (pos 16385 *ℤ w)
  pub w_least : pos 1 ≤ℤ w
  pub w_most : w ≤ℤ pos most
  pub twice : pos doubled ≡ pos 2 *ℤ w

-- what is true of each snapped point
pub record IsSnapped (s : Snapped) : Type 0 where
  pub x_within : IsCoordinate s.x
  pub y_within : IsCoordinate s.y
  pub nearness_within : s.q ≤ HELD_TOP

-- Corners in steps, and what they stand for.
use Rattle.std.specs.Prelude.{ℕ, ℤ, pos, neg_ℤ, ◌*◌, ◌^◌, ◌<◌, ◌+ℤ◌, ◌*ℤ◌, ◌≤ℤ◌}
use Rattle.cull_base.specs.Bounds.{Bounded}
use Rattle.exact_clip.specs.Clip.{Clip}
use Rattle.exact_clip.specs.declared.held.Held.{Held}
use Rattle.box_rays.specs.declared.corner.Corner.{Corner}

-- no coordinate lies further from 0
pub record IsReach (most : ℕ) (v : Held) : Type 0 where
  pub x : Bounded most v.x
  pub y : Bounded most v.y
  pub w : Bounded most v.w

-- so many times halved, each has 47 bits
abbrev pub IsShort : ℕ → Held → Type 0
IsShort shift v = IsReach (2 ^ 47 * 2 ^ shift) v

pub record IsSmall (corner : Corner) : Type 0 where
  pub across : Bounded (2 ^ 48) corner.across
  pub down : Bounded (2 ^ 48) corner.down
  pub w : Bounded (2 ^ 48) corner.w

-- an exact number lies from so many steps to two more
pub record IsAbout (step : ℕ) (steps exact : ℤ) : Type 0 where
  pub low : (steps *ℤ pos step) ≤ℤ exact
  pub high : exact ≤ℤ ((steps +ℤ pos 2) *ℤ pos step)

pub record StandsFor (step : ℕ) (corner : Corner) (exact : Clip) : Type 0 where
  pub proper : 0 < step
  pub across : IsAbout step corner.across exact.x
  pub down : IsAbout step corner.down (neg_ℤ exact.y)
  pub w : IsAbout step corner.w exact.w

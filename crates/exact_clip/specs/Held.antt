-- Whole numbers of a unit that hold exact coordinates from below.
use Rattle.std.specs.Prelude.{ℕ, ℤ, pos, ◌^◌, ◌+ℤ◌, ◌*ℤ◌, ◌≤ℤ◌, ◌<ℤ◌}
use Rattle.cull_base.specs.Bounds.{Bounded}
use Rattle.exact_clip.specs.Clip.{Clip}
use Rattle.exact_clip.specs.declared.held.Held.{Held}

-- the exact number lies from so many units to less than 4 units above
pub record IsHeld (unit : ℕ) (held exact : ℤ) : Type 0 where
  pub low : (held *ℤ pos unit) ≤ℤ exact
  pub high : exact <ℤ ((held +ℤ pos 4) *ℤ pos unit)
  pub bounded : Bounded (2 ^ 62) held

pub record Holds (unit : ℕ) (v : Held) (exact : Clip) : Type 0 where
  pub x : IsHeld unit v.x exact.x
  pub y : IsHeld unit v.y exact.y
  pub w : IsHeld unit v.w exact.w

-- How far points may lie: what snapping asks of them.
use Rattle.std.specs.Prelude.{ℕ, ℤ, pos, neg_ℤ, ◌*◌, ◌^◌, ◌*ℤ◌, ◌≤ℤ◌}
use Rattle.near_clip.specs.declared.hom_point.HomPoint.{HomPoint}

-- at most n times the scale away from 0
abbrev pub WithinScaled : ℕ → ℤ → ℤ → Type 0
WithinScaled n scale v = (neg_ℤ (pos n *ℤ scale) ≤ℤ v) × (v ≤ℤ (pos n *ℤ scale))

-- in front of the near plane and within the guard
pub record IsInReach (near : ℕ) (p : HomPoint) : Type 0 where
  pub scale_least : pos 1 ≤ℤ p.scale
  pub scale_most : p.scale ≤ℤ pos (2 ^ 25)
  pub w_least : (pos near *ℤ p.scale) ≤ℤ p.w
  pub w_most : p.w ≤ℤ (pos (16384 * near) *ℤ p.scale)
  pub x_within : WithinScaled (16384 * near) p.scale p.x
  pub y_within : WithinScaled (16384 * near) p.scale p.y

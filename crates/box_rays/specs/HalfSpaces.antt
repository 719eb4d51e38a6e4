-- Halves of space whose face goes through the eye.
use Rattle.std.specs.Prelude.{ℤ, pos, neg_ℤ, ◌^◌, ◌+ℤ◌, ◌*ℤ◌, ◌<ℤ◌}
use Rattle.cull_base.specs.Bounds.{Bounded}
use Rattle.exact_clip.specs.Clip.{Clip}
use Rattle.box_rays.specs.declared.half_space.HalfSpace.{HalfSpace}

pub record IsNarrow (half : HalfSpace) : Type 0 where
  pub across : Bounded (2 ^ 11) half.across
  pub down : Bounded (2 ^ 11) half.down
  pub w : Bounded (2 ^ 11) half.w

abbrev pub sum_at : HalfSpace → Clip → ℤ
sum_at half p = ((half.across *ℤ p.x) +ℤ (half.down *ℤ neg_ℤ p.y)) +ℤ (half.w *ℤ p.w)

abbrev pub IsIn : HalfSpace → Clip → Type 0
IsIn half p = pos 0 <ℤ sum_at half p

-- Cross products and determinants of clip points, and numbers that stand for them within a known error.
use Rattle.std.specs.Prelude.{ℕ, ℤ, pos, ◌*◌, ◌+ℤ◌, ◌-ℤ◌, ◌*ℤ◌}
use Rattle.cull_base.specs.Bounds.{Bounded}
use Rattle.exact_clip.specs.Clip.{Clip}

abbrev pub cross : Clip → Clip → Clip
cross p q =
    record {
      x = (p.y *ℤ q.w) -ℤ (p.w *ℤ q.y);
      y = (p.w *ℤ q.x) -ℤ (p.x *ℤ q.w);
      w = (p.x *ℤ q.y) -ℤ (p.y *ℤ q.x);
    }

abbrev pub dot : Clip → Clip → ℤ
dot p q = ((p.x *ℤ q.x) +ℤ (p.y *ℤ q.y)) +ℤ (p.w *ℤ q.w)

abbrev pub det : Clip → Clip → Clip → ℤ
det a b c = dot a (cross b c)

abbrev pub sum_of : Clip → Clip → Clip
sum_of p q = record { x = p.x +ℤ q.x; y = p.y +ℤ q.y; w = p.w +ℤ q.w }

-- a number of a scale's steps is at most so many steps off
abbrev pub IsWithin : ℕ → ℕ → ℤ → ℤ → Type 0
IsWithin scale off held exact = Bounded (off * scale) (exact -ℤ (held *ℤ pos scale))

-- so is each part of a clip point
pub record StandsFor (scale off : ℕ) (held exact : Clip) : Type 0 where
  pub x : IsWithin scale off held.x exact.x
  pub y : IsWithin scale off held.y exact.y
  pub w : IsWithin scale off held.w exact.w

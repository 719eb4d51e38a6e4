-- Linear forms over the screen, and the exact lines that they stand for.
use Rattle.std.specs.Prelude.{ℕ, ℤ, pos, neg_ℤ, nat_abs, max, ◌≡◌, ◌+◌, ◌*◌, ◌^◌, ◌<◌, ◌+ℤ◌, ◌-ℤ◌, ◌*ℤ◌, ◌≤ℤ◌, ◌<ℤ◌}
use Rattle.cull_base.specs.Bounds.{Bounded}
use Rattle.cull_base.specs.Screen.{Dimensions}
use Rattle.cull_base.specs.Piece.{Point, middle}
use Rattle.exact_clip.specs.Clip.{Clip}
use Rattle.clip_lines.specs.Lines.{dot}
use Rattle.pixel_forms.specs.Rays.{Place, InSquare, ray_through}
use Rattle.pixel_forms.specs.declared.form.Form.{Form}

abbrev pub value_at : Form → Point → ℤ
value_at f p = ((f.a *ℤ p.x) +ℤ (f.b *ℤ p.y)) +ℤ f.c

-- no less than this over the square around a point, and no more than that
abbrev pub least_at : Form → Point → ℤ
least_at f p = value_at f p -ℤ f.down

abbrev pub most_at : Form → Point → ℤ
most_at f p = value_at f p +ℤ f.down

-- How a form is made of a line that is so many steps off: `down` is what it falls by from the middle of a square, and what
-- the line may be off by along a ray.
pub record IsMadeOf (width height reach off : ℕ) (l : Clip) (f : Form) : Type 0 where
  pub a : f.a ≡ l.x *ℤ pos height
  pub b : f.b ≡ neg_ℤ (l.y *ℤ pos width)
  pub c : f.c ≡ ((l.w -ℤ l.x) +ℤ l.y) *ℤ pos (8 * width * height)
  pub down : f.down ≡ pos (reach * (nat_abs f.a + nat_abs f.b) + 3 * off * (8 * width * height + reach * max width height))

-- By the rays through the square around each sample of the screen an exact line lies between what a form says, in so many
-- parts.
pub record IsFormOf (size : Dimensions) (reach scale : ℕ) (f : Form) (line : Clip) : Type 0 where
  pub low : (px py : ℕ) → px < size.width → py < size.height → (z : Place) → InSquare reach px py z
      → (least_at f (middle px py) *ℤ pos (scale * z.d)) ≤ℤ dot line (ray_through size z)
  pub high : (px py : ℕ) → px < size.width → py < size.height → (z : Place) → InSquare reach px py z
      → dot line (ray_through size z) ≤ℤ (most_at f (middle px py) *ℤ pos (scale * z.d))

-- Within 2^15 sixteenths of the first pixel values fit 62 bits, and together with `down` 63.
pub record IsSmall (f : Form) : Type 0 where
  pub a : Bounded (2 ^ 45) f.a
  pub b : Bounded (2 ^ 45) f.b
  pub c : Bounded (2 ^ 61) f.c
  pub positive : pos 0 ≤ℤ f.down
  pub down : f.down <ℤ pos (2 ^ 62)

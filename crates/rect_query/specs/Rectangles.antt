-- The shape of a rectangle at a distance. The top is that of the scene's grade of nearness.
use Rattle.std.specs.Prelude.{ℕ, ℤ, pos, ◌*◌, cond, int_lt}
use Rattle.std.specs.Int.{div_ceil}
use Rattle.cull_base.specs.declared.rect.Rect.{Rect}
use Rattle.cull_base.specs.Screen.{Dimensions, screen_of}
use Rattle.cull_base.specs.Rectangle.{meets}
use Rattle.cull_base.specs.Pixels.{natural}
use Rattle.cull_base.specs.Shape.{Shape, AlwaysOutside, AlwaysVisible, Flat}

-- the nearness of what is asked for at distance w, rounded up: top * near / w
abbrev pub nearness_at : ℕ → ℕ → ℤ → ℕ
nearness_at top near w = div_ceil (top * near) (natural w)

-- a rectangle at distance w: outside without a pixel in the screen, visible before the near distance
abbrev pub rectangle_shape : ℕ → ℕ → Dimensions → Rect → ℤ → Shape
rectangle_shape top near size rect w =
    cond (meets rect (screen_of size)) (cond (int_lt w (pos near)) AlwaysVisible (Flat rect (nearness_at top near w))) AlwaysOutside

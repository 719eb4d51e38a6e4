-- Rays through the points of pixels, and the triangles of clip points that they meet. A pixel is a cell of the screen,
-- which goes from -1 to 1 along each axis of clip space.
use Rattle.std.specs.Prelude.{ℕ, ℤ, pos, neg_ℤ, ◌+◌, ◌*◌, ◌<◌, ◌+ℤ◌, ◌-ℤ◌, ◌*ℤ◌, ◌≤ℤ◌, ◌<ℤ◌, Bool, true, int_lt, cond}
use Rattle.cull_base.specs.Bounds.{Bounded}
use Rattle.cull_base.specs.Screen.{Dimensions}
use Rattle.cull_base.specs.declared.triangle.Winding.{Winding}
use Rattle.cull_base.specs.declared.triangle.Winding.TheVariants.{Both, DropClockwise, DropCounter}
use Rattle.exact_clip.specs.Clip.{Clip}
use Rattle.clip_lines.specs.Lines.{det}

-- x over d and y over d sixteenths of a pixel, y downwards
pub record Place : Type 0 where
  pub x : ℤ
  pub y : ℤ
  pub d : ℕ

-- along each axis at most so many sixteenths from the middle of a pixel, which is all of the pixel by 8
pub record InSquare (reach px py : ℕ) (z : Place) : Type 0 where
  pub proper : 0 < z.d
  pub across : Bounded (reach * z.d) (z.x -ℤ pos ((16 * px + 8) * z.d))
  pub down : Bounded (reach * z.d) (z.y -ℤ pos ((16 * py + 8) * z.d))

-- from the eye through a place: a clip point that is seen there
abbrev pub ray_through : Dimensions → Place → Clip
ray_through size z =
    record {
      x = (z.x -ℤ pos (8 * size.width * z.d)) *ℤ pos size.height;
      y = (pos (8 * size.height * z.d) -ℤ z.y) *ℤ pos size.width;
      w = pos (8 * size.width * size.height * z.d);
    }

-- a triangle
pub record Face : Type 0 where
  pub a : Clip
  pub b : Clip
  pub c : Clip

-- positive where the corners go counterclockwise on the screen, y upwards
abbrev pub volume : Face → ℤ
volume f = det f.a f.b f.c

abbrev pub turned : ℤ → ℤ → ℤ
turned d v = cond (int_lt d (pos 0)) (neg_ℤ v) v

abbrev pub size_of : Face → ℤ
size_of f = turned (volume f) (volume f)

-- the ray times the size is the sum of the corners, each times its weight
abbrev pub weight_a : Face → Clip → ℤ
weight_a f ray = turned (volume f) (det ray f.b f.c)

abbrev pub weight_b : Face → Clip → ℤ
weight_b f ray = turned (volume f) (det f.a ray f.c)

abbrev pub weight_c : Face → Clip → ℤ
weight_c f ray = turned (volume f) (det f.a f.b ray)

abbrev pub weight_of : Face → Clip → ℤ
weight_of f ray = (weight_a f ray +ℤ weight_b f ray) +ℤ weight_c f ray

-- the ray meets the triangle: at its point by the size over the sum of the weights
pub record Meets (f : Face) (ray : Clip) : Type 0 where
  pub proper : pos 0 <ℤ size_of f
  pub a : pos 0 ≤ℤ weight_a f ray
  pub b : pos 0 ≤ℤ weight_b f ray
  pub c : pos 0 ≤ℤ weight_c f ray

-- where it is met its w is less than another
abbrev pub IsNearer : Face → Clip → ℤ → Type 0
IsNearer f ray w = (ray.w *ℤ size_of f) <ℤ (w *ℤ weight_of f ray)

-- where it is met it isn't before the near distance
abbrev pub IsUncut : ℤ → Face → Clip → Type 0
IsUncut near f ray = (near *ℤ weight_of f ray) ≤ℤ (ray.w *ℤ size_of f)

abbrev pub keeps : Winding → Face → Bool
keeps Both f = true
keeps DropClockwise f = int_lt (pos 0) (volume f)
keeps DropCounter f = int_lt (volume f) (pos 0)

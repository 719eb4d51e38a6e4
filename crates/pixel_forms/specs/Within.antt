-- Pieces that say no more than triangles do: over each square around a sample that a piece covers.
use Rattle.std.specs.Prelude.{ℕ, ℤ, pos, ◌≡◌, ◌<◌, ◌*ℤ◌, ◌≤ℤ◌, true}
use Rattle.cull_base.specs.Screen.{Dimensions}
use Rattle.cull_base.specs.Piece.{Piece, Point, middle, covers}
use Rattle.cull_base.specs.Depth.{numerator, denominator}
use Rattle.cull_base.specs.declared.triangle.Winding.{Winding}
use Rattle.exact_clip.specs.Clip.{Clip}
use Rattle.pixel_forms.specs.Rays.{Place, InSquare, ray_through, Face, size_of, weight_of, Meets, IsUncut, keeps}

-- how triangles are seen: the near distance in parts of 2^-298, the nearness there, and the half side of a square
pub record Sight : Type 0 where
  pub size : Dimensions
  pub near : ℤ
  pub top : ℕ
  pub winding : Winding
  pub reach : ℕ

-- A triangle is met by a ray, kept, not cut off, and no farther than a piece says at a point: the piece's depth there is
-- at most the top times the near distance over the triangle's w.
pub record Backs (sight : Sight) (t : Piece) (p : Point) (ray : Clip) (f : Face) : Type 0 where
  pub meets : Meets f ray
  pub kept : keeps sight.winding f ≡ true
  pub uncut : IsUncut sight.near f ray
  pub no_farther : (numerator t p *ℤ (ray.w *ℤ size_of f)) ≤ℤ ((denominator t *ℤ pos sight.top) *ℤ (sight.near *ℤ weight_of f ray))

-- At each sample of the screen that the piece covers, each point of the square around it has a triangle of these.
abbrev pub IsWithinFaces : Sight → (Face → Type 0) → Piece → Type 0
IsWithinFaces sight faces t =
    (px py : ℕ) → px < sight.size.width → py < sight.size.height → covers t (middle px py) ≡ true
    → (z : Place) → InSquare sight.reach px py z
    → (f : Face) × faces f × Backs sight t (middle px py) (ray_through sight.size z) f

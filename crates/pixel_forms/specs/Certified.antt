-- Corners that forms certify, and what forms say of triangles.
use Rattle.std.specs.Prelude.{ℕ, pos, ◌≡◌, ◌*◌, ◌^◌, ◌<◌, ◌*ℤ◌, ◌≤ℤ◌, ◌<ℤ◌, ◌⊎◌, true, IfSome, Some}
use Rattle.cull_base.specs.Piece.{Piece, Point, vertex, nearness, middle, doubled_area}
use Rattle.exact_clip.specs.Clip.{Clip}
use Rattle.pixel_forms.specs.Rays.{Place, InSquare, ray_through, Face, size_of, weight_of, Meets, IsUncut, keeps}
use Rattle.pixel_forms.specs.Within.{Sight}
use Rattle.pixel_forms.specs.Forms.{least_at, most_at}
use Rattle.pixel_forms.specs.declared.nearness_form.NearnessForm.{NearnessForm}
use Rattle.pixel_forms.specs.declared.forms.Forms.{Forms}
use Rattle.pixel_forms.specs.declared.forms.Half.{Half}

-- the nearness is the near distance times the top times the form's least over this
abbrev pub divisor_of : NearnessForm → ℕ
divisor_of n = n.divisor * 2 ^ n.power

-- in front of the eye, and beyond the near distance
pub record IsSeen (n : NearnessForm) (p : Point) : Type 0 where
  pub front : pos 0 ≤ℤ least_at n.form p
  pub uncut : most_at n.form p ≤ℤ n.limit

-- inside all lines, and seen by each plane
pub record IsInside (forms : Forms) (p : Point) : Type 0 where
  pub first : pos 0 ≤ℤ least_at forms.first p
  pub second : pos 0 ≤ℤ least_at forms.second p
  pub third : pos 0 ≤ℤ least_at forms.third p
  pub plane : IsSeen forms.plane p
  pub other : IfSome forms.other (λ h. (pos 0 ≤ℤ least_at h.edge p) × IsSeen h.plane p)

-- a nearness is at most what a plane says at a point; `nearest` is the near distance times the top
abbrev pub IsAtMost : ℕ → NearnessForm → Point → ℕ → Type 0
IsAtMost nearest n p q = pos (q * divisor_of n) ≤ℤ (pos nearest *ℤ least_at n.form p)

pub record IsCertified (nearest : ℕ) (forms : Forms) (p : Point) (q : ℕ) : Type 0 where
  pub inside : IsInside forms p
  pub plane : IsAtMost nearest forms.plane p q
  pub other : IfSome forms.other (λ h. IsAtMost nearest h.plane p q)

-- A triangle is met by a ray, kept and not cut off. By one of the planes its nearness is at least what the plane says at
-- a point: the top times the near distance over the triangle's w.
pub record Serves (sight : Sight) (nearest : ℕ) (forms : Forms) (p : Point) (ray : Clip) (f : Face) : Type 0 where
  pub meets : Meets f ray
  pub kept : keeps sight.winding f ≡ true
  pub uncut : IsUncut sight.near f ray
  pub plane : NearnessForm
  pub member : (forms.plane ≡ plane) ⊎ ((h : Half) × (forms.other ≡ Some h) × (h.plane ≡ plane))
  pub positive : 0 < divisor_of plane
  pub near : ((pos nearest *ℤ least_at plane.form p) *ℤ (ray.w *ℤ size_of f))
      ≤ℤ (pos (divisor_of plane) *ℤ (pos sight.top *ℤ (sight.near *ℤ weight_of f ray)))

-- over the square around each sample of the screen that is inside the forms, one of some triangles serves
abbrev pub StandFor : Sight → ℕ → Forms → (Face → Type 0) → Type 0
StandFor sight nearest forms faces =
    (px py : ℕ) → px < sight.size.width → py < sight.size.height → IsInside forms (middle px py)
    → (z : Place) → InSquare sight.reach px py z
    → (f : Face) × faces f × Serves sight nearest forms (middle px py) (ray_through sight.size z) f

-- a piece of positive area with three certified corners
pub record HasCertified (nearest : ℕ) (forms : Forms) (t : Piece) : Type 0 where
  pub positive_area : pos 0 <ℤ doubled_area t
  pub first : IsCertified nearest forms (vertex t 0) (nearness t 0)
  pub second : IsCertified nearest forms (vertex t 1) (nearness t 1)
  pub third : IsCertified nearest forms (vertex t 2) (nearness t 2)

abbrev pub face : Clip → Clip → Clip → Face
face a b c = record { a = a; b = b; c = c }

-- the triangle a b c, or one of the two that a quad a b c d has
abbrev pub IsTriangle : Clip → Clip → Clip → Face → Type 0
IsTriangle a b c f = f ≡ face a b c

abbrev pub IsHalf : Clip → Clip → Clip → Clip → Face → Type 0
IsHalf a b c d f = (f ≡ face a b c) ⊎ (f ≡ face a c d)

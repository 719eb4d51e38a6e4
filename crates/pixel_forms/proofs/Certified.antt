-- What certified corners make.
use Rattle.std.proofs.Common.{◌≡◌, ◌⊎◌, inl, inr, ℕ, ℤ, pos, negsuc, ◌<◌, ◌*ℤ◌, ◌≤ℤ◌, ◌<ℤ◌, arith, Option, Some, None, IfSome}
use Rattle.std.proofs.lemmas.Int.{ints}
use Rattle.cull_base.specs.Piece.{Piece, Point, vertex, nearness, doubled_area, middle}
use Rattle.cull_base.specs.Depth.{numerator, denominator}
use Rattle.depth_plane.proofs.Mean.{Weights, weights_of, touches_covered}
use Rattle.pixel_forms.specs.Forms.{least_at}
use Rattle.pixel_forms.specs.Rays.{Place, ray_through, Face, size_of, weight_of}
use Rattle.pixel_forms.specs.Within.{Sight, Backs, IsWithinFaces}
use Rattle.pixel_forms.specs.Certified.{divisor_of, IsSeen, IsInside, IsAtMost, IsCertified, Serves, StandFor, HasCertified}
use Rattle.pixel_forms.specs.declared.nearness_form.NearnessForm.{NearnessForm}
use Rattle.pixel_forms.specs.declared.forms.Forms.{Forms}
use Rattle.pixel_forms.specs.declared.forms.Half.{Half}
use Rattle.pixel_forms.proofs.Means.{least-inside, most-inside, depth-inside, depth-below}
use Rattle.pixel_forms.proofs.Numbers.{mul-assoc}

-- at the corners, so inside
seen-inside : (t : Piece) (p : Point) (n : NearnessForm) → pos 0 <ℤ doubled_area t → Weights t p → IsSeen n (vertex t 0) → IsSeen n (vertex t 1) → IsSeen n (vertex t 2) → IsSeen n p
seen-inside t p n area w a b c = record {
  front = least-inside t p n.form area w a.front b.front c.front;
  uncut = most-inside t p n.form n.limit area w a.uncut b.uncut c.uncut;
}

half-inside : (t : Piece) (p : Point) (o : Option Half) → pos 0 <ℤ doubled_area t → Weights t p
    → IfSome o (λ h. (pos 0 ≤ℤ least_at h.edge (vertex t 0)) × IsSeen h.plane (vertex t 0))
    → IfSome o (λ h. (pos 0 ≤ℤ least_at h.edge (vertex t 1)) × IsSeen h.plane (vertex t 1))
    → IfSome o (λ h. (pos 0 ≤ℤ least_at h.edge (vertex t 2)) × IsSeen h.plane (vertex t 2))
    → IfSome o (λ h. (pos 0 ≤ℤ least_at h.edge p) × IsSeen h.plane p)
half-inside t p None area w a b c = tt
half-inside t p (Some h) area w a b c = (least-inside t p h.edge area w a.0 b.0 c.0, seen-inside t p h.plane area w a.1 b.1 c.1)

all-inside : (t : Piece) (p : Point) (nearest : ℕ) (forms : Forms) → Weights t p → HasCertified nearest forms t → IsInside forms p
all-inside t p nearest forms w h =
    let area = h.positive_area in let a = h.first.inside in let b = h.second.inside in let c = h.third.inside in
    record {
      first = least-inside t p forms.first area w a.first b.first c.first;
      second = least-inside t p forms.second area w a.second b.second c.second;
      third = least-inside t p forms.third area w a.third b.third c.third;
      plane = seen-inside t p forms.plane area w a.plane b.plane c.plane;
      other = half-inside t p forms.other area w a.other b.other c.other;
    }

-- the nearness of a corner is at most what each of the planes says
pub some_at_most : (nearest q : ℕ) (p : Point) (o : Option Half) (h : Half) (n : NearnessForm) → o ≡ Some h → h.plane ≡ n → IfSome o (λ h. IsAtMost nearest h.plane p q) → IsAtMost nearest n p q
some_at_most nearest q p None h n e f a = cc
some_at_most nearest q p (Some k) h n e f a = rw (← f) (some k h e a)
  where
    some : (k h : Half) → Some k ≡ Some h → IsAtMost nearest k.plane p q → IsAtMost nearest h.plane p q
    some k h e a = let same : k ≡ h = cc in rw (← same) a

plane-at_most : (nearest q : ℕ) (p : Point) (forms : Forms) (n : NearnessForm) → (forms.plane ≡ n) ⊎ ((h : Half) × (forms.other ≡ Some h) × (h.plane ≡ n)) → IsCertified nearest forms p q → IsAtMost nearest n p q
plane-at_most nearest q p forms n (inl e) c = rw (← e) c.plane
plane-at_most nearest q p forms n (inr s) c = some_at_most nearest q p forms.other s.0 n s.1 s.2 c.other

positive-size : (w : ℕ) (s : ℤ) → pos 0 <ℤ s → pos 0 ≤ℤ (pos w *ℤ s)
positive-size w (pos s) h = omega (arith, ints)
positive-size w (negsuc s) h = absurd (omega (arith, ints, h))

no_less : (a : ℤ) → pos 0 <ℤ a → pos 0 ≤ℤ a
no_less a h = omega (arith, ints, h)

above_zero : (n : ℕ) → 0 < n → pos 0 <ℤ pos n
above_zero n h = omega (arith, ints, h)

regrouped : (a b t s : ℤ) → a ≤ℤ (b *ℤ (t *ℤ s)) → a ≤ℤ ((b *ℤ t) *ℤ s)
regrouped a b t s h = let e = mul-assoc b t s in rw e h

backs : (sight : Sight) (nearest px py : ℕ) (forms : Forms) (t : Piece) (z : Place) (f : Face) → Weights t (middle px py) → HasCertified nearest forms t
    → Serves sight nearest forms (middle px py) (ray_through sight.size z) f → Backs sight t (middle px py) (ray_through sight.size z) f
backs sight nearest px py forms t z f w h s =
    let a = plane-at_most nearest (nearness t 0) (vertex t 0) forms s.plane s.member h.first in
    let b = plane-at_most nearest (nearness t 1) (vertex t 1) forms s.plane s.member h.second in
    let c = plane-at_most nearest (nearness t 2) (vertex t 2) forms s.plane s.member h.third in
    let d = depth-inside t (middle px py) s.plane.form (divisor_of s.plane) nearest w a b c in
    let ray = ray_through sight.size z in
    record {
      meets = s.meets;
      kept = s.kept;
      uncut = s.uncut;
      no_farther = regrouped _ (denominator t) (pos sight.top) (sight.near *ℤ weight_of f ray)
          (depth-below (numerator t (middle px py)) (pos (divisor_of s.plane)) (pos nearest) (least_at s.plane.form (middle px py)) (denominator t) (ray.w *ℤ size_of f) (pos sight.top *ℤ (sight.near *ℤ weight_of f ray))
          (above_zero (divisor_of s.plane) s.positive) (positive-size _ (size_of f) s.meets.proper) (no_less (denominator t) h.positive_area) d s.near);
    }

pub within : (sight : Sight) (nearest : ℕ) (forms : Forms) (faces : Face → Type 0) (t : Piece) → StandFor sight nearest forms faces → HasCertified nearest forms t → IsWithinFaces sight faces t
within sight nearest forms faces t stand h px py hx hy covered z in_square =
    let w = weights_of t (middle px py) (touches_covered t (middle px py) covered) in
    let found = stand px py hx hy (all-inside t (middle px py) nearest forms w h) z in_square in
    (found.0, found.1, backs sight nearest px py forms t z found.0 w h found.2)

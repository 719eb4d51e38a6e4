-- How a nearness form is made of the plane of a triangle.
use Rattle.std.specs.Prelude.{ℕ, pos, ◌≡◌, ◌+◌, ◌-◌, ◌*◌, ◌^◌, ◌<◌, ◌≤◌, ◌*ℤ◌, ◌≤ℤ◌, ◌⊎◌, Bool, true, IfSome}
use Rattle.exact_clip.specs.Clip.{Clip}
use Rattle.clip_lines.specs.Lines.{StandsFor}
use Rattle.clip_lines.specs.Parts.{of_line}
use Rattle.clip_lines.specs.declared.plane.Plane.{Plane}
use Rattle.pixel_forms.specs.Seen.{size_seen, whole_of, turned_line}
use Rattle.pixel_forms.specs.Forms.{IsFormOf, IsSmall}
use Rattle.pixel_forms.specs.Certified.{divisor_of}
use Rattle.pixel_forms.specs.declared.eye.Eye.{Eye}
use Rattle.pixel_forms.specs.declared.forms.Forms.{Forms}
use Rattle.pixel_forms.specs.declared.nearness_form.NearnessForm.{NearnessForm}

-- The form is that of the lines' sum, in steps of a power of two. The divisor is no less than the determinant along a
-- whole ray, and the limit, where corners may lie before the near distance, no more. The shift is the corners'.
pub record IsNearnessOf (eye : Eye) (shift : ℕ) (plane : Plane) (is_front : Bool) (n : NearnessForm) : Type 0 where
  pub taken : ℕ
  pub form : (scale : ℕ) (exact : Clip) → StandsFor scale plane.sum.off (of_line plane.sum) exact
      → IsFormOf (size_seen eye) eye.reach (scale * 2 ^ taken) n.form (turned_line plane.is_turned exact)
  pub positive : 0 < n.divisor
  pub most : ((plane.length + plane.unsure) * whole_of eye) * 2 ^ shift ≤ divisor_of n * 2 ^ taken
  pub least : (is_front ≡ true) ⊎ ((n.limit *ℤ pos (eye.near * 2 ^ taken)) ≤ℤ pos (((plane.length - plane.unsure) * whole_of eye) * 2 ^ shift))

pub record IsSmallNearness (n : NearnessForm) : Type 0 where
  pub form : IsSmall n.form
  pub power : n.power < 128
  pub positive : 0 < n.divisor
  pub divisor : n.divisor ≤ 2 ^ 38

-- each value of the forms fits, at points within 2^15 sixteenths
pub record AreSmall (forms : Forms) : Type 0 where
  pub first : IsSmall forms.first
  pub second : IsSmall forms.second
  pub third : IsSmall forms.third
  pub plane : IsSmallNearness forms.plane
  pub other : IfSome forms.other (λ h. IsSmall h.edge × IsSmallNearness h.plane)

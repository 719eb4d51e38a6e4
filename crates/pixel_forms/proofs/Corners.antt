-- From the corners of a triangle to what its forms stand for.
use Rattle.std.proofs.Common.{◌≡◌, ℕ, ℤ, pos, negsuc, ◌<◌, ◌≤◌, ◌*◌, ◌^◌, ◌*ℤ◌, ◌≤ℤ◌, Bool, true, arith}
use Rattle.std.proofs.lemmas.Int.{ints}
use Rattle.std.proofs.Math.Nat.{mul-le-mul_right}
use Rattle.std.proofs.lemmas.Nat.{pow_pos, mul-le}
use Rattle.exact_clip.specs.Clip.{Clip}
use Rattle.exact_clip.specs.Held.{Holds}
use Rattle.exact_clip.specs.declared.held.Held.{Held}
use Rattle.clip_lines.specs.Lines.{cross, StandsFor}
use Rattle.clip_lines.specs.Parts.{of_corner, of_line}
use Rattle.clip_lines.specs.Planes.{AreOf, IsPlaneOf}
use Rattle.pixel_forms.specs.Seen.{keeps_turned}
use Rattle.pixel_forms.specs.Nearness.{IsNearnessOf}
use Rattle.pixel_forms.specs.declared.eye.Eye.{Eye}
use Rattle.pixel_forms.specs.declared.nearness_form.NearnessForm.{NearnessForm}
use Rattle.pixel_forms.proofs.Triangles.{IsKnown}
use Rattle.clip_lines.specs.declared.corner.Corner.{Corner}
use Rattle.clip_lines.specs.declared.line.Line.{Line}
use Rattle.clip_lines.specs.declared.plane.Plane.{Plane}

-- ---- the near distance

le_times : (m : ℕ) (v : ℤ) (u : ℕ) → pos m ≤ℤ v → pos (m * u) ≤ℤ (v *ℤ pos u)
le_times m (pos v) u h = let l : m ≤ v = omega (arith, ints, h) in omega (arith, ints, mul-le-mul_right u l)
le_times m (negsuc v) u h = absurd (omega (arith, ints, h))

pub beyond : (near unit : ℕ) (v : Held) (exact : Clip) → pos near ≤ℤ v.w → Holds unit v exact → pos (near * unit) ≤ℤ exact.w
beyond near unit v exact h held = let a = le_times near v.w unit h in let b = held.w.low in linear (pos (near * unit)) (v.w *ℤ pos unit) exact.w a b
  where
    linear : (a b c : ℤ) → a ≤ℤ b → b ≤ℤ c → a ≤ℤ c
    linear a b c h i = omega (arith, ints, h, i)

scale-positive : (unit shift : ℕ) → 0 < unit → 0 < unit * 2 ^ shift
scale-positive unit shift h = let p = pow_pos shift in let m : 1 * 1 ≤ unit * 2 ^ shift = mul-le 1 1 unit (2 ^ shift) h p in omega (arith, m)

-- what a line through two corners stands for
abbrev pub IsThrough : Corner → Corner → Line → Type 0
IsThrough p q l = (scale : ℕ) (a b : Clip) → StandsFor scale 1 (of_corner p) a → StandsFor scale 1 (of_corner q) b → StandsFor (scale * scale) l.off (of_line l) (cross a b)

pub are-of : (unit shift : ℕ) (p q r : Corner) (pq qr rp : Line) (a b c : Clip) → 0 < unit
    → StandsFor (unit * 2 ^ shift) 1 (of_corner p) a → StandsFor (unit * 2 ^ shift) 1 (of_corner q) b → StandsFor (unit * 2 ^ shift) 1 (of_corner r) c
    → IsThrough p q pq → IsThrough q r qr → IsThrough r p rp → AreOf (unit * 2 ^ shift) p pq qr rp a b c
are-of unit shift p q r pq qr rp a b c h sp sq sr l m n = record {
  proper = scale-positive unit shift h;
  first = sp;
  ab = l (unit * 2 ^ shift) a b sp sq;
  bc = m (unit * 2 ^ shift) b c sq sr;
  ca = n (unit * 2 ^ shift) c a sr sp;
}

-- ---- a triangle that is known by its corners

pub known-of : (eye : Eye) (unit shift : ℕ) (plane : Plane) (is_front : Bool) (n : NearnessForm) (u v w : Held) (a b c : Clip) → 0 < unit
    → plane.unsure < plane.length → IsPlaneOf (unit * 2 ^ shift) plane a b c → IsNearnessOf eye shift plane is_front n
    → (is_front ≡ true → pos eye.near ≤ℤ u.w) → (is_front ≡ true → pos eye.near ≤ℤ v.w) → (is_front ≡ true → pos eye.near ≤ℤ w.w)
    → keeps_turned eye.winding plane.is_turned ≡ true → Holds unit u a → Holds unit v b → Holds unit w c → IsKnown eye unit shift plane is_front n a b c
known-of eye unit shift plane is_front n u v w a b c h known stands nearness fu fv fw kept hu hv hw = record {
  unit-positive = h;
  known = known;
  plane-of = stands;
  nearness = nearness;
  front-a = λ e. beyond eye.near unit u a (fu e) hu;
  front-b = λ e. beyond eye.near unit v b (fv e) hv;
  front-c = λ e. beyond eye.near unit w c (fw e) hw;
  winding-kept = kept;
}

-- The forms of a triangle, and of a quad, stand for it.
use Rattle.std.proofs.Common.{◌≡◌, ◌⊎◌, inl, inr, ℕ, ℤ, pos, negsuc, neg_ℤ, ◌<◌, ◌+◌, ◌-◌, ◌*◌, ◌^◌, ◌+ℤ◌, ◌*ℤ◌, ◌≤ℤ◌, ◌<ℤ◌, Bool, true, false, cond, Option, Some, None, IfSome, suc, zero, arith, refl, sym}
use Rattle.std.proofs.lemmas.Int.{ints}
use Rattle.std.proofs.lemmas.Nat.{pow_pos}
use Rattle.cull_base.specs.Piece.{Point, middle}
use Rattle.cull_base.specs.Grade.{top_of}
use Rattle.exact_clip.specs.Clip.{Clip}
use Rattle.clip_lines.specs.Lines.{cross, dot, det, sum_of}
use Rattle.clip_lines.specs.Planes.{IsPlaneOf}
use Rattle.clip_lines.specs.declared.plane.Plane.{Plane}
use Rattle.pixel_forms.specs.Rays.{Place, InSquare, ray_through, size_of, weight_a, weight_b, weight_c, weight_of, Meets, IsUncut}
use Rattle.pixel_forms.specs.Seen.{size_seen, sight_of, nearest_of, whole_of, keeps_turned, turned_line}
use Rattle.pixel_forms.specs.Forms.{least_at, most_at, IsFormOf}
use Rattle.pixel_forms.specs.Certified.{divisor_of, IsSeen, Serves, StandFor, face, IsTriangle, IsHalf}
use Rattle.pixel_forms.specs.Nearness.{IsNearnessOf}
use Rattle.pixel_forms.specs.declared.eye.Eye.{Eye}
use Rattle.pixel_forms.specs.declared.form.Form.{Form}
use Rattle.pixel_forms.specs.declared.nearness_form.NearnessForm.{NearnessForm}
use Rattle.pixel_forms.specs.declared.forms.Forms.{Forms}
use Rattle.pixel_forms.specs.declared.forms.Half.{Half}
use Rattle.pixel_forms.proofs.Faces.{opposite, turned-dot, weight-a_is, weight-b_is, weight-c_is, weight-of_is, size_is, front-uncut, kept}
use Rattle.pixel_forms.proofs.Served.{near-enough, uncut-below, size-most, size-least}

not_less : (l w : ℤ) (n : ℕ) → pos 0 ≤ℤ l → (l *ℤ pos n) ≤ℤ w → pos 0 ≤ℤ w
not_less (pos l) w n h i = omega (arith, ints, i)
not_less (negsuc l) w n h i = absurd (omega (arith, ints, h))

product-positive : (m n : ℕ) → 0 < m → 0 < n → 0 < m * n
product-positive (suc m) (suc n) h i = omega arith
product-positive zero n h i = absurd (omega (arith, h))
product-positive m zero h i = absurd (omega (arith, i))

above-positive : (n cube : ℕ) (s : ℤ) → 0 < n → 0 < cube → pos (n * cube) ≤ℤ s → pos 0 <ℤ s
above-positive n cube s h i k = let p = product-positive n cube h i in omega (arith, ints, p, k)

sum_not_less : (a b c : ℤ) → pos 0 ≤ℤ a → pos 0 ≤ℤ b → pos 0 ≤ℤ c → pos 0 ≤ℤ ((a +ℤ b) +ℤ c)
sum_not_less a b c h i j = omega (arith, ints, h, i, j)

-- what holds of a number holds of another that is the same
le_of : (a b c : ℤ) → b ≡ c → a ≤ℤ c → a ≤ℤ b
le_of a b c e h = omega (arith, ints, e, h)

of_le : (a b c : ℤ) → a ≡ c → c ≤ℤ b → a ≤ℤ b
of_le a b c e h = omega (arith, ints, e, h)

-- a form that isn't negative: the ray is on the line's inner side
inner : (eye : Eye) (scale px py : ℕ) (f : Form) (line : Clip) (z : Place) → IsFormOf (size_seen eye) eye.reach scale f line → px < eye.width → py < eye.height → InSquare eye.reach px py z
    → pos 0 ≤ℤ least_at f (middle px py) → pos 0 ≤ℤ dot line (ray_through (size_seen eye) z)
inner eye scale px py f line z is hx hy hz h = not_less (least_at f (middle px py)) (dot line (ray_through (size_seen eye) z)) (scale * z.d) h (is.low px py hx hy z hz)

-- ---- one triangle

-- a plane that stands for that of a triangle whose corners are so many units
pub record IsKnown (eye : Eye) (unit shift : ℕ) (plane : Plane) (is_front : Bool) (n : NearnessForm) (a b c : Clip) : Type 0 where
  pub unit-positive : 0 < unit
  pub known : plane.unsure < plane.length
  pub plane-of : IsPlaneOf (unit * 2 ^ shift) plane a b c
  pub nearness : IsNearnessOf eye shift plane is_front n
  pub front-a : is_front ≡ true → pos (eye.near * unit) ≤ℤ a.w
  pub front-b : is_front ≡ true → pos (eye.near * unit) ≤ℤ b.w
  pub front-c : is_front ≡ true → pos (eye.near * unit) ≤ℤ c.w
  pub winding-kept : keeps_turned eye.winding plane.is_turned ≡ true

cube-positive : (unit shift : ℕ) → 0 < unit → 0 < ((unit * 2 ^ shift) * (unit * 2 ^ shift)) * (unit * 2 ^ shift)
cube-positive unit shift h =
    let s = product-positive unit (2 ^ shift) h (pow_pos shift) in
    product-positive ((unit * 2 ^ shift) * (unit * 2 ^ shift)) (unit * 2 ^ shift) (product-positive (unit * 2 ^ shift) (unit * 2 ^ shift) s s) s

module _ (eye : Eye) (unit shift : ℕ) (plane : Plane) (is_front : Bool) (n : NearnessForm) (a b c : Clip) (k : IsKnown eye unit shift plane is_front n a b c) where
  size_above : pos ((plane.length - plane.unsure) * (((unit * 2 ^ shift) * (unit * 2 ^ shift)) * (unit * 2 ^ shift))) ≤ℤ size_of (face a b c)
  size_above =
      le_of (pos ((plane.length - plane.unsure) * (((unit * 2 ^ shift) * (unit * 2 ^ shift)) * (unit * 2 ^ shift)))) (size_of (face a b c)) (cond plane.is_turned (neg_ℤ (det a b c)) (det a b c))
      (sym (size_is plane.is_turned a b c k.plane-of.sign))
      (size-least plane.length plane.unsure (((unit * 2 ^ shift) * (unit * 2 ^ shift)) * (unit * 2 ^ shift)) (cond plane.is_turned (neg_ℤ (det a b c)) (det a b c)) k.known k.plane-of.size)

  size_below : size_of (face a b c) ≤ℤ pos ((plane.length + plane.unsure) * (((unit * 2 ^ shift) * (unit * 2 ^ shift)) * (unit * 2 ^ shift)))
  size_below =
      of_le (size_of (face a b c)) (pos ((plane.length + plane.unsure) * (((unit * 2 ^ shift) * (unit * 2 ^ shift)) * (unit * 2 ^ shift)))) (cond plane.is_turned (neg_ℤ (det a b c)) (det a b c))
      (sym (size_is plane.is_turned a b c k.plane-of.sign))
      (size-most plane.length plane.unsure (((unit * 2 ^ shift) * (unit * 2 ^ shift)) * (unit * 2 ^ shift)) (cond plane.is_turned (neg_ℤ (det a b c)) (det a b c)) k.plane-of.size)

  pub proper : pos 0 <ℤ size_of (face a b c)
  proper =
      let known = k.known in
      above-positive (plane.length - plane.unsure) (((unit * 2 ^ shift) * (unit * 2 ^ shift)) * (unit * 2 ^ shift)) (size_of (face a b c)) (omega (arith, known)) (cube-positive unit shift k.unit-positive) size_above

  -- the ray meets it where it is inside its three lines
  pub met : (r : Clip) → pos 0 ≤ℤ dot (turned_line plane.is_turned (cross a b)) r → pos 0 ≤ℤ dot (turned_line plane.is_turned (cross b c)) r → pos 0 ≤ℤ dot (turned_line plane.is_turned (cross c a)) r → Meets (face a b c) r
  met r hc ha hb = record {
    proper = proper;
    a = le_of (pos 0) (weight_a (face a b c) r) (dot (turned_line plane.is_turned (cross b c)) r) (weight-a_is plane.is_turned a b c r k.plane-of.sign) ha;
    b = le_of (pos 0) (weight_b (face a b c) r) (dot (turned_line plane.is_turned (cross c a)) r) (weight-b_is plane.is_turned a b c r k.plane-of.sign) hb;
    c = le_of (pos 0) (weight_c (face a b c) r) (dot (turned_line plane.is_turned (cross a b)) r) (weight-c_is plane.is_turned a b c r k.plane-of.sign) hc;
  }

  form_of : IsFormOf (size_seen eye) eye.reach (((unit * 2 ^ shift) * (unit * 2 ^ shift)) * 2 ^ k.nearness.taken) n.form (turned_line plane.is_turned (sum_of (sum_of (cross a b) (cross b c)) (cross c a)))
  form_of = k.nearness.form ((unit * 2 ^ shift) * (unit * 2 ^ shift)) (sum_of (sum_of (cross a b) (cross b c)) (cross c a)) k.plane-of.sum

  near_there : (px py : ℕ) (z : Place) → px < eye.width → py < eye.height → InSquare eye.reach px py z → IsSeen n (middle px py)
      → ((pos (nearest_of eye) *ℤ least_at n.form (middle px py)) *ℤ (pos (whole_of eye * z.d) *ℤ size_of (face a b c)))
      ≤ℤ (pos (divisor_of n) *ℤ (pos (top_of eye.grade) *ℤ (pos (eye.near * unit) *ℤ weight_of (face a b c) (ray_through (size_seen eye) z))))
  near_there px py z hx hy hz seen =
      near-enough (top_of eye.grade) eye.near (plane.length + plane.unsure) (whole_of eye) (2 ^ shift) (divisor_of n) (2 ^ k.nearness.taken) unit (unit * 2 ^ shift) z.d
      (least_at n.form (middle px py)) (size_of (face a b c)) (weight_of (face a b c) (ray_through (size_seen eye) z)) seen.front proper size_below k.nearness.most
      (le_of (least_at n.form (middle px py) *ℤ pos ((((unit * 2 ^ shift) * (unit * 2 ^ shift)) * 2 ^ k.nearness.taken) * z.d)) (weight_of (face a b c) (ray_through (size_seen eye) z))
      (dot (turned_line plane.is_turned (sum_of (sum_of (cross a b) (cross b c)) (cross c a))) (ray_through (size_seen eye) z))
      (weight-of_is plane.is_turned a b c (ray_through (size_seen eye) z) k.plane-of.sign) (form_of.low px py hx hy z hz))

  uncut_there : (px py : ℕ) (z : Place) → px < eye.width → py < eye.height → InSquare eye.reach px py z → IsSeen n (middle px py) → Meets (face a b c) (ray_through (size_seen eye) z)
      → IsUncut (pos (eye.near * unit)) (face a b c) (ray_through (size_seen eye) z)
  uncut_there px py z hx hy hz seen m = elim (k.nearness.least) [
    | inl front ↦ front-uncut (pos (eye.near * unit)) a b c (ray_through (size_seen eye) z) (k.front-a front) (k.front-b front) (k.front-c front) m
    | inr limit ↦ uncut-below eye.near (plane.length - plane.unsure) (whole_of eye) (2 ^ shift) (2 ^ k.nearness.taken) unit (unit * 2 ^ shift) z.d
        (most_at n.form (middle px py)) n.limit (size_of (face a b c)) (weight_of (face a b c) (ray_through (size_seen eye) z)) seen.uncut
        (sum_not_less (weight_a (face a b c) (ray_through (size_seen eye) z)) (weight_b (face a b c) (ray_through (size_seen eye) z)) (weight_c (face a b c) (ray_through (size_seen eye) z)) m.a m.b m.c) size_above limit
        (of_le (weight_of (face a b c) (ray_through (size_seen eye) z)) (most_at n.form (middle px py) *ℤ pos ((((unit * 2 ^ shift) * (unit * 2 ^ shift)) * 2 ^ k.nearness.taken) * z.d))
        (dot (turned_line plane.is_turned (sum_of (sum_of (cross a b) (cross b c)) (cross c a))) (ray_through (size_seen eye) z))
        (weight-of_is plane.is_turned a b c (ray_through (size_seen eye) z) k.plane-of.sign) (form_of.high px py hx hy z hz))
  ]

  pub serves : (forms : Forms) (px py : ℕ) (z : Place) → (forms.plane ≡ n) ⊎ ((h : Half) × (forms.other ≡ Some h) × (h.plane ≡ n))
      → px < eye.width → py < eye.height → InSquare eye.reach px py z → IsSeen n (middle px py) → Meets (face a b c) (ray_through (size_seen eye) z)
      → Serves (sight_of eye unit) (nearest_of eye) forms (middle px py) (ray_through (size_seen eye) z) (face a b c)
  serves forms px py z member hx hy hz seen m = record {
    meets = m;
    kept = kept eye.winding plane.is_turned a b c k.plane-of.sign proper k.winding-kept;
    uncut = uncut_there px py z hx hy hz seen m;
    plane = n;
    member = member;
    positive = product-positive n.divisor (2 ^ n.power) k.nearness.positive (pow_pos n.power);
    near = near_there px py z hx hy hz seen;
  }

-- ---- a triangle's forms

pub triangle-stands : (eye : Eye) (unit shift : ℕ) (plane : Plane) (is_front : Bool) (forms : Forms) (a b c : Clip) (i j l : ℕ)
    → IsKnown eye unit shift plane is_front forms.plane a b c
    → IsFormOf (size_seen eye) eye.reach i forms.first (turned_line plane.is_turned (cross a b))
    → IsFormOf (size_seen eye) eye.reach j forms.second (turned_line plane.is_turned (cross b c))
    → IsFormOf (size_seen eye) eye.reach l forms.third (turned_line plane.is_turned (cross c a))
    → StandFor (sight_of eye unit) (nearest_of eye) forms (IsTriangle a b c)
triangle-stands eye unit shift plane is_front forms a b c i j l known first second third px py hx hy inside z hz =
    let m = met eye unit shift plane is_front forms.plane a b c known (ray_through (size_seen eye) z)
    (inner eye i px py forms.first (turned_line plane.is_turned (cross a b)) z first hx hy hz inside.first)
    (inner eye j px py forms.second (turned_line plane.is_turned (cross b c)) z second hx hy hz inside.second)
    (inner eye l px py forms.third (turned_line plane.is_turned (cross c a)) z third hx hy hz inside.third) in
    (face a b c, refl, serves eye unit shift plane is_front forms.plane a b c known forms px py z (inl refl) hx hy hz inside.plane m)

-- ---- a quad's forms

opposite-turned : (t : Bool) (a c r : Clip) → dot (turned_line t (cross a c)) r ≡ neg_ℤ (dot (turned_line t (cross c a)) r)
opposite-turned t a c r = both t (dot (cross a c) r) (dot (cross c a) r) (dot (turned_line t (cross a c)) r) (dot (turned_line t (cross c a)) r) (opposite a c r) (turned-dot t (cross a c) r) (turned-dot t (cross c a) r)
  where
    both : (t : Bool) (p q p' q' : ℤ) → p ≡ neg_ℤ q → p' ≡ cond t (neg_ℤ p) p → q' ≡ cond t (neg_ℤ q) q → p' ≡ neg_ℤ q'
    both false p q p' q' e f g = omega (arith, ints, e, f, g)
    both true p q p' q' e f g = omega (arith, ints, e, f, g)

-- on either side of the diagonal
side : {X : Type 0} (v u : ℤ) → u ≡ neg_ℤ v → (pos 0 ≤ℤ v → X) → (pos 0 ≤ℤ u → X) → X
side (pos n) u e f g = f (omega (arith, ints))
side (negsuc n) u e f g = g (omega (arith, ints, e))

pub at_half : (p : Point) (o : Option Half) (h : Half) → o ≡ Some h → IfSome o (λ h. (pos 0 ≤ℤ least_at h.edge p) × IsSeen h.plane p) → (pos 0 ≤ℤ least_at h.edge p) × IsSeen h.plane p
at_half p None h e k = cc
at_half p (Some g) h e k = let same : g ≡ h = cc in rw (← same) k

turned_as : (t u : Bool) (line r : Clip) → t ≡ u → pos 0 ≤ℤ dot (turned_line u line) r → pos 0 ≤ℤ dot (turned_line t line) r
turned_as t u line r e h = rw e h

pub quad-stands : (eye : Eye) (unit shift : ℕ) (plane over : Plane) (is_front is_over_front : Bool) (forms : Forms) (half : Half) (a b c d : Clip) (i j l m : ℕ)
    → forms.other ≡ Some half → over.is_turned ≡ plane.is_turned
    → IsKnown eye unit shift plane is_front forms.plane a b c → IsKnown eye unit shift over is_over_front half.plane a c d
    → IsFormOf (size_seen eye) eye.reach i forms.first (turned_line plane.is_turned (cross a b))
    → IsFormOf (size_seen eye) eye.reach j forms.second (turned_line plane.is_turned (cross b c))
    → IsFormOf (size_seen eye) eye.reach l forms.third (turned_line plane.is_turned (cross c d))
    → IsFormOf (size_seen eye) eye.reach m half.edge (turned_line plane.is_turned (cross d a))
    → StandFor (sight_of eye unit) (nearest_of eye) forms (IsHalf a b c d)
quad-stands eye unit shift plane over is_front is_over_front forms half a b c d i j l m other same known known-over first second third fourth px py hx hy inside z hz =
    let r = ray_through (size_seen eye) z in
    let at-half = at_half (middle px py) forms.other half other inside.other in
    let ab = inner eye i px py forms.first (turned_line plane.is_turned (cross a b)) z first hx hy hz inside.first in
    let bc = inner eye j px py forms.second (turned_line plane.is_turned (cross b c)) z second hx hy hz inside.second in
    let cd = inner eye l px py forms.third (turned_line plane.is_turned (cross c d)) z third hx hy hz inside.third in
    let da = inner eye m px py half.edge (turned_line plane.is_turned (cross d a)) z fourth hx hy hz at-half.0 in
    side (dot (turned_line plane.is_turned (cross c a)) r) (dot (turned_line plane.is_turned (cross a c)) r) (opposite-turned plane.is_turned a c r)
    (λ ca. (
      face a b c,
      inl refl,
      serves eye unit shift plane is_front forms.plane a b c known forms px py z (inl refl) hx hy hz inside.plane
          (met eye unit shift plane is_front forms.plane a b c known r ab bc ca),
    ))
    (λ ac. (
      face a c d,
      inr refl,
      serves eye unit shift over is_over_front half.plane a c d known-over forms px py z (inr (half, other, refl)) hx hy hz at-half.1
          (met eye unit shift over is_over_front half.plane a c d known-over r (turned_as over.is_turned plane.is_turned (cross a c) r same ac) (turned_as over.is_turned plane.is_turned (cross c d) r same cd) (turned_as over.is_turned plane.is_turned (cross d a) r same da)),
    ))

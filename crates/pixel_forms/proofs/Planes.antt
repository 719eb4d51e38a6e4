-- A nearness form by the numbers that the code took.
use Rattle.std.proofs.Common.{◌≡◌, ◌⊎◌, inl, inr, ℕ, ℤ, pos, negsuc, ◌<◌, ◌≤◌, ◌+◌, ◌-◌, ◌*◌, ◌^◌, ◌*ℤ◌, ◌≤ℤ◌, Bool, true, arith, ap}
use Rattle.std.proofs.lemmas.Int.{ints}
use Rattle.std.proofs.lemmas.Nat.{pow-add}
use Rattle.std.proofs.Math.Nat.{mul-le-mul_right}
use Rattle.exact_clip.specs.Clip.{Clip}
use Rattle.clip_lines.specs.Lines.{StandsFor}
use Rattle.clip_lines.specs.Parts.{of_line}
use Rattle.clip_lines.specs.declared.plane.Plane.{Plane}
use Rattle.pixel_forms.specs.Seen.{size_seen, whole_of, turned_line}
use Rattle.pixel_forms.specs.Forms.{IsFormOf}
use Rattle.pixel_forms.specs.Nearness.{IsNearnessOf}
use Rattle.pixel_forms.specs.declared.eye.Eye.{Eye}
use Rattle.pixel_forms.specs.declared.form.Form.{Form}
use Rattle.pixel_forms.proofs.Numbers.{mul-assoc}

-- steps of one power and then another, by the sum
same-steps : (n p t s h : ℕ) → p + t ≡ s + h → (n * 2 ^ p) * 2 ^ t ≡ (n * 2 ^ s) * 2 ^ h
same-steps n p t s h e =
    let a = pow-add 2 p t in let b = pow-add 2 s h in
    regroup n (2 ^ p) (2 ^ t) (2 ^ s) (2 ^ h) (2 ^ (p + t)) (2 ^ (s + h)) a b (ap (λ z. 2 ^ z) e)
  where
    times : (n a b c d : ℕ) → a * b ≡ c * d → (n * a) * b ≡ (n * c) * d
    times n a b c d e = let f = ap (λ z. n * z) e in omega (arith, f)

    regroup : (n a b c d x y : ℕ) → x ≡ a * b → y ≡ c * d → x ≡ y → (n * a) * b ≡ (n * c) * d
    regroup n a b c d x y ex ey e = let f : a * b ≡ c * d = omega (arith, ex, ey, e) in times n a b c d f

most-steps : (size most s h p t divisor : ℕ) → size ≤ most * 2 ^ s → divisor ≡ most → p + t ≡ s + h → size * 2 ^ h ≤ (divisor * 2 ^ p) * 2 ^ t
most-steps size most s h p t divisor le ed e =
    let a : size * 2 ^ h ≤ (most * 2 ^ s) * 2 ^ h = mul-le-mul_right (2 ^ h) le in
    let b = same-steps most p t s h e in
    rw ed (omega (arith, a, b))

le_times : (v : ℤ) (m u : ℕ) → v ≤ℤ pos m → (v *ℤ pos u) ≤ℤ pos (m * u)
le_times (pos v) m u h = let l : v ≤ m = omega (arith, ints, h) in omega (arith, ints, mul-le-mul_right u l)
le_times (negsuc v) m u h = omega (arith, ints)

least-steps : (limit : ℤ) (near size least s h p t whole : ℕ) → (limit *ℤ pos near) ≤ℤ pos size → size ≤ least * 2 ^ p → least * 2 ^ s ≤ whole → p + t ≡ s + h
    → (limit *ℤ pos (near * 2 ^ t)) ≤ℤ pos (whole * 2 ^ h)
least-steps limit near size least s h p t whole hl hs hw e =
    let a : ((limit *ℤ pos near) *ℤ pos (2 ^ t)) ≤ℤ pos (size * 2 ^ t) = le_times (limit *ℤ pos near) size (2 ^ t) hl in
    let b : size * 2 ^ t ≤ (least * 2 ^ p) * 2 ^ t = mul-le-mul_right (2 ^ t) hs in
    let c : (least * 2 ^ s) * 2 ^ h ≤ whole * 2 ^ h = mul-le-mul_right (2 ^ h) hw in
    let d = same-steps least p t s h e in
    let f = mul-assoc limit (pos near) (pos (2 ^ t)) in
    chain (limit *ℤ pos (near * 2 ^ t)) ((limit *ℤ pos near) *ℤ pos (2 ^ t)) (size * 2 ^ t) ((least * 2 ^ p) * 2 ^ t) ((least * 2 ^ s) * 2 ^ h) (whole * 2 ^ h) f a b d c
  where
    chain : (x y : ℤ) (a b c d : ℕ) → y ≡ x → y ≤ℤ pos a → a ≤ b → b ≡ c → c ≤ d → x ≤ℤ pos d
    chain x y a b c d e h i j k = omega (arith, ints, e, h, i, j, k)

-- where the limit stands: anywhere in front
abbrev pub IsLimit : Bool → ℤ → ℕ → ℕ → ℕ → Type 0
IsLimit front limit near least power = (front ≡ true) ⊎ ((size : ℕ) × ((limit *ℤ pos near) ≤ℤ pos size) × (size ≤ least * 2 ^ power))

pub limited-by : (front : Bool) (limit l : ℤ) (near least power size : ℕ) → limit ≡ l → (l *ℤ pos near) ≤ℤ pos size → size ≤ least * 2 ^ power → IsLimit front limit near least power
limited-by front limit l near least power size e h k = rw e (inr (size, h, k))

pub nearness-by : (eye : Eye) (shift : ℕ) (plane : Plane) (front : Bool) (form : Form) (divisor power : ℕ) (limit : ℤ) (taken whole least most steps : ℕ)
    → ((scale : ℕ) (exact : Clip) → StandsFor scale plane.sum.off (of_line plane.sum) exact → IsFormOf (size_seen eye) eye.reach (scale * 2 ^ taken) form (turned_line plane.is_turned exact))
    → whole ≡ whole_of eye → least * 2 ^ steps ≤ (plane.length - plane.unsure) * whole → (plane.length + plane.unsure) * whole ≤ most * 2 ^ steps → 0 < most → divisor ≡ most
    → power + taken ≡ steps + shift → IsLimit front limit eye.near least power
    → IsNearnessOf eye shift plane front (record { form = form; divisor = divisor; power = power; limit = limit })
nearness-by eye shift plane front form divisor power limit taken whole least most steps stands ew hl hm positive ed ep is = record {
  taken = taken;
  form = stands;
  positive = rw ed positive;
  most = most-steps ((plane.length + plane.unsure) * whole_of eye) most steps shift power taken divisor (rw ew at hm) ed ep;
  least = elim is [
    | inl f ↦ inl f
    | inr l ↦ inr (least-steps limit eye.near l.0 least steps shift power taken ((plane.length - plane.unsure) * whole_of eye) l.1 l.2 (rw ew at hl) ep)
  ];
}

-- Along a ray the numbers of a plane bound those of its triangle.
use Rattle.std.proofs.Common.{◌≡◌, ℕ, ℤ, pos, negsuc, ◌<◌, ◌≤◌, ◌+◌, ◌-◌, ◌*◌, ◌-ℤ◌, ◌*ℤ◌, ◌≤ℤ◌, ◌<ℤ◌, suc, ◌∙◌, arith, ap}
use Rattle.std.proofs.lemmas.Int.{ints}
use Rattle.std.proofs.Math.Nat.{mul-le-mul_left, mul-le-mul_right}
use Rattle.cull_base.specs.Bounds.{Bounded}

le_from : (a b c d : ℕ) → a ≡ b → c ≡ d → b ≤ d → a ≤ c
le_from a b c d e f h = omega (arith, e, f, h)

chain : (a b c d : ℕ) → a ≤ b → b ≤ c → c ≤ d → a ≤ d
chain a b c d h i j = omega (arith, h, i, j)

-- The numbers: l the form's least, w the weights, s the size, n = u d the ray's w, and s ≤ big S S S, where S = unit k is a
-- corner's step, and S S t that of the form.
near-steps : (big u k den t unit step l d s w : ℕ) → s ≤ big * ((step * step) * (unit * k)) → (big * u) * k ≤ den * t → l * (((step * step) * t) * d) ≤ w
    → (l * (u * d)) * s ≤ (den * unit) * w
near-steps big u k den t unit step l d s w hs hb hw =
    let a = mul-le-mul_left (l * (u * d)) hs in
    let b = mul-le-mul_left ((l * d) * (unit * (step * step))) hb in
    let c = mul-le-mul_left (den * unit) hw in
    let e : (l * (u * d)) * (big * ((step * step) * (unit * k))) ≡ ((l * d) * (unit * (step * step))) * ((big * u) * k) = omega arith in
    let f : ((l * d) * (unit * (step * step))) * (den * t) ≡ (den * unit) * (l * (((step * step) * t) * d)) = omega arith in
    linear _ _ _ _ _ _ a e b f c
  where
    linear : (a b c d e f : ℕ) → a ≤ b → b ≡ c → c ≤ d → d ≡ e → e ≤ f → a ≤ f
    linear a b c d e f p q r s t = omega (arith, p, q, r, s, t)

near-natural : (top near big u k den t unit step l d s w : ℕ) → s ≤ big * ((step * step) * (unit * k)) → (big * u) * k ≤ den * t → l * (((step * step) * t) * d) ≤ w
    → ((top * near) * l) * ((u * d) * s) ≤ den * (top * ((near * unit) * w))
near-natural top near big u k den t unit step l d s w hs hb hw =
    let a = mul-le-mul_left (top * near) (near-steps big u k den t unit step l d s w hs hb hw) in
    le_from (((top * near) * l) * ((u * d) * s)) ((top * near) * ((l * (u * d)) * s)) (den * (top * ((near * unit) * w))) ((top * near) * ((den * unit) * w)) (omega arith) (omega arith) a

pub near-enough : (top near big u k den t unit step d : ℕ) (l s w : ℤ) → pos 0 ≤ℤ l → pos 0 <ℤ s → s ≤ℤ pos (big * ((step * step) * (unit * k))) → (big * u) * k ≤ den * t
    → (l *ℤ pos (((step * step) * t) * d)) ≤ℤ w
    → ((pos (top * near) *ℤ l) *ℤ (pos (u * d) *ℤ s)) ≤ℤ (pos den *ℤ (pos top *ℤ (pos (near * unit) *ℤ w)))
near-enough top near big u k den t unit step d (pos l) (pos s) (pos w) hl hs hb hd hw =
    let b : s ≤ big * ((step * step) * (unit * k)) = omega (arith, ints, hb) in
    let c : l * (((step * step) * t) * d) ≤ w = omega (arith, ints, hw) in
    let g = near-natural top near big u k den t unit step l d s w b hd c in omega (arith, ints, g)
near-enough top near big u k den t unit step d (pos l) (pos s) (negsuc w) hl hs hb hd hw = absurd (omega (arith, ints, hw))
near-enough top near big u k den t unit step d (pos l) (negsuc s) w hl hs hb hd hw = absurd (omega (arith, ints, hs))
near-enough top near big u k den t unit step d (negsuc l) s w hl hs hb hd hw = absurd (omega (arith, ints, hl))

-- and from above: m is the form's most, and s no less than small S S S
uncut-natural : (near small u k t unit step m d s w : ℕ) → small * ((step * step) * (unit * k)) ≤ s → m * (near * t) ≤ (small * u) * k → w ≤ m * (((step * step) * t) * d)
    → (near * unit) * w ≤ (u * d) * s
uncut-natural near small u k t unit step m d s w hs hm hw =
    let a = mul-le-mul_left (near * unit) hw in
    let b = mul-le-mul_left ((unit * (step * step)) * d) hm in
    let c = mul-le-mul_left (u * d) hs in
    let e : (near * unit) * (m * (((step * step) * t) * d)) ≡ ((unit * (step * step)) * d) * (m * (near * t)) = omega arith in
    let f : ((unit * (step * step)) * d) * ((small * u) * k) ≡ (u * d) * (small * ((step * step) * (unit * k))) = omega arith in
    linear _ _ _ _ _ _ a e b f c
  where
    linear : (a b c d e f : ℕ) → a ≤ b → b ≡ c → c ≤ d → d ≡ e → e ≤ f → a ≤ f
    linear a b c d e f p q r s t = omega (arith, p, q, r, s, t)

le_times : (m n : ℤ) (k : ℕ) → m ≤ℤ n → (m *ℤ pos k) ≤ℤ (n *ℤ pos k)
le_times (pos m) (pos n) k h = let l : m ≤ n = omega (arith, ints, h) in omega (arith, ints, mul-le-mul_right k l)
le_times (pos m) (negsuc n) k h = absurd (omega (arith, ints, h))
le_times (negsuc m) (pos n) k h = omega (arith, ints)
le_times (negsuc m) (negsuc n) k h = let l : suc n ≤ suc m = omega (arith, ints, h) in omega (arith, ints, mul-le-mul_right k l)

uncut-enough : (near small u k t unit step d : ℕ) (m s w : ℤ) → pos 0 ≤ℤ w → pos (small * ((step * step) * (unit * k))) ≤ℤ s → (m *ℤ pos (near * t)) ≤ℤ pos ((small * u) * k)
    → w ≤ℤ (m *ℤ pos (((step * step) * t) * d))
    → (pos (near * unit) *ℤ w) ≤ℤ (pos (u * d) *ℤ s)
uncut-enough near small u k t unit step d (pos m) (pos s) (pos w) hw hs hl h =
    let b : small * ((step * step) * (unit * k)) ≤ s = omega (arith, ints, hs) in
    let c : m * (near * t) ≤ (small * u) * k = omega (arith, ints, hl) in
    let e : w ≤ m * (((step * step) * t) * d) = omega (arith, ints, h) in
    let g = uncut-natural near small u k t unit step m d s w b c e in omega (arith, ints, g)
uncut-enough near small u k t unit step d (negsuc m) (pos s) (pos w) hw hs hl h =
    none near unit (u * d) s w (omega (arith, ints, h))
  where
    none : (near unit n s w : ℕ) → w ≤ 0 → (pos (near * unit) *ℤ pos w) ≤ℤ (pos n *ℤ pos s)
    none near unit n s w h = let a : (near * unit) * w ≤ (near * unit) * 0 = mul-le-mul_left (near * unit) h in let b : (near * unit) * w ≤ n * s = omega (arith, a) in omega (arith, ints, b)
uncut-enough near small u k t unit step d (pos m) (negsuc s) (pos w) hw hs hl h = absurd (omega (arith, ints, hs))
uncut-enough near small u k t unit step d (negsuc m) (negsuc s) (pos w) hw hs hl h = absurd (omega (arith, ints, hs))
uncut-enough near small u k t unit step d m s (negsuc w) hw hs hl h = absurd (omega (arith, ints, hw))

-- where the form's most is no more than a limit
pub uncut-below : (near small u k t unit step d : ℕ) (m limit s w : ℤ) → m ≤ℤ limit → pos 0 ≤ℤ w → pos (small * ((step * step) * (unit * k))) ≤ℤ s → (limit *ℤ pos (near * t)) ≤ℤ pos ((small * u) * k)
    → w ≤ℤ (m *ℤ pos (((step * step) * t) * d))
    → (pos (near * unit) *ℤ w) ≤ℤ (pos (u * d) *ℤ s)
uncut-below near small u k t unit step d m limit s w hl hw hs ht h =
    uncut-enough near small u k t unit step d m s w hw hs (le_both (m *ℤ pos (near * t)) (limit *ℤ pos (near * t)) (pos ((small * u) * k)) (le_times m limit (near * t) hl) ht) h
  where
    le_both : (a b c : ℤ) → a ≤ℤ b → b ≤ℤ c → a ≤ℤ c
    le_both a b c h i = omega (arith, ints, h, i)

-- a determinant's size, known within some cubes
pub size-most : (length unsure cube : ℕ) (s : ℤ) → Bounded (unsure * cube) (s -ℤ (pos length *ℤ pos cube)) → s ≤ℤ pos ((length + unsure) * cube)
size-most length unsure cube s h = let e : (length + unsure) * cube ≡ length * cube + unsure * cube = omega arith in omega (arith, ints, h, e)

pub size-least : (length unsure cube : ℕ) (s : ℤ) → unsure < length → Bounded (unsure * cube) (s -ℤ (pos length *ℤ pos cube)) → pos ((length - unsure) * cube) ≤ℤ s
size-least length unsure cube s lt h = least (length - unsure) length unsure cube s (omega (arith, lt)) h
  where
    least : (n length unsure cube : ℕ) (s : ℤ) → length ≡ n + unsure → Bounded (unsure * cube) (s -ℤ (pos length *ℤ pos cube)) → pos (n * cube) ≤ℤ s
    least n length unsure cube s e h =
        let f : length * cube ≡ n * cube + unsure * cube = ap (λ z. z * cube) e ∙ add n unsure cube in omega (arith, ints, h, f)
      where
        add : (n m c : ℕ) → (n + m) * c ≡ n * c + m * c
        add n m c = omega arith

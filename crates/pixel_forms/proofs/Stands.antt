-- What the form of a line says over the square around a sample of the screen.
use Rattle.std.proofs.Common.{◌≡◌, ℕ, ℤ, pos, neg_ℤ, nat_abs, ◌<◌, ◌≤◌, ◌+◌, ◌*◌, ◌+ℤ◌, ◌-ℤ◌, ◌*ℤ◌, ◌≤ℤ◌, max, arith}
use Rattle.std.proofs.lemmas.Int.{ints}
use Rattle.std.proofs.Math.Nat.{mul-le-mul_left, mul-le-mul_right}
use Rattle.cull_base.specs.Bounds.{Bounded}
use Rattle.cull_base.specs.Screen.{dimensions}
use Rattle.cull_base.specs.Piece.{middle}
use Rattle.cull_base.proofs.Bounds.{bounded-mul}
use Rattle.cull_base.proofs.Ring.{diff, diff-add, diff-sub, diff-mul, diff-neg, diff-same, pos_is, over1, over2, over3, over4}
use Rattle.exact_clip.specs.Clip.{Clip}
use Rattle.clip_lines.specs.Lines.{dot, StandsFor}
use Rattle.pixel_forms.specs.Rays.{Place, InSquare, ray_through}
use Rattle.pixel_forms.specs.Forms.{value_at, IsMadeOf, IsFormOf}
use Rattle.pixel_forms.specs.declared.form.Form.{Form}
use Rattle.pixel_forms.proofs.Numbers.{add-mul, sub-mul, own-bounded, pos-bounded, bounded-more}

abbrev form : ℤ → ℤ → ℤ → ℤ → ℤ → ℤ
form a b c x y = ((a *ℤ x) +ℤ (b *ℤ y)) +ℤ c

-- ---- how long a ray is

-- from the middle of the screen, along one axis
centred-sum : (c m r k : ℕ) (z : ℤ) → c ≤ 2 * m → k ≡ m + r → Bounded r (z -ℤ pos c) → Bounded k (z -ℤ pos m)
centred-sum c m r k z le e h = (omega (arith, ints, le, e, h), omega (arith, ints, le, e, h))

centred : (r px w d : ℕ) (z : ℤ) → px < w → Bounded (r * d) (z -ℤ pos ((16 * px + 8) * d)) → Bounded ((8 * w + r) * d) (z -ℤ pos (8 * w * d))
centred r px w d z h b =
    let le : 16 * px + 8 ≤ 2 * (8 * w) = omega (arith, h) in
    let k : (16 * px + 8) * d ≤ (2 * (8 * w)) * d = mul-le-mul_right d le in
    centred-sum ((16 * px + 8) * d) (8 * w * d) (r * d) ((8 * w + r) * d) z (omega (arith, k)) (omega arith) b

opposite-bounded : (k m : ℕ) (z : ℤ) → Bounded k (z -ℤ pos m) → Bounded k (pos m -ℤ z)
opposite-bounded k m z h = (omega (arith, ints, h), omega (arith, ints, h))

-- the span is 8 w h + r m for an m no less than w and h
spanned : (r w h d m : ℕ) → h ≤ m → ((8 * w + r) * d) * h ≤ (8 * w * h + r * m) * d
spanned r w h d m le =
    let a = mul-le-mul_left r le in
    let b : (r * h) * d ≤ (r * m) * d = mul-le-mul_right d a in
    omega (arith, b)

spanned-down : (r w h d m : ℕ) → w ≤ m → ((8 * h + r) * d) * w ≤ (8 * w * h + r * m) * d
spanned-down r w h d m le =
    let a = mul-le-mul_left r le in
    let b : (r * w) * d ≤ (r * m) * d = mul-le-mul_right d a in
    omega (arith, b)

ray-x : (r px w h d m : ℕ) (z : ℤ) → px < w → h ≤ m → Bounded (r * d) (z -ℤ pos ((16 * px + 8) * d)) → Bounded ((8 * w * h + r * m) * d) ((z -ℤ pos (8 * w * d)) *ℤ pos h)
ray-x r px w h d m z lt le b =
    bounded-more (((8 * w + r) * d) * h) ((8 * w * h + r * m) * d) ((z -ℤ pos (8 * w * d)) *ℤ pos h) (spanned r w h d m le)
    (bounded-mul ((8 * w + r) * d) h (z -ℤ pos (8 * w * d)) (pos h) (centred r px w d z lt b) (pos-bounded h))

ray-y : (r py w h d m : ℕ) (z : ℤ) → py < h → w ≤ m → Bounded (r * d) (z -ℤ pos ((16 * py + 8) * d)) → Bounded ((8 * w * h + r * m) * d) ((pos (8 * h * d) -ℤ z) *ℤ pos w)
ray-y r py w h d m z lt le b =
    bounded-more (((8 * h + r) * d) * w) ((8 * w * h + r * m) * d) ((pos (8 * h * d) -ℤ z) *ℤ pos w) (spanned-down r w h d m le)
    (bounded-mul ((8 * h + r) * d) w (pos (8 * h * d) -ℤ z) (pos w) (opposite-bounded ((8 * h + r) * d) (8 * h * d) z (centred r py h d z lt b)) (pos-bounded w))

ray-w : (r w h d m : ℕ) → Bounded ((8 * w * h + r * m) * d) (pos (8 * w * h * d))
ray-w r w h d m = bounded-more (8 * w * h * d) ((8 * w * h + r * m) * d) (pos (8 * w * h * d)) (omega arith) (pos-bounded (8 * w * h * d))

-- ---- by a ray an exact line is so far from the held one

apart : (p x s r : ℤ) → p *ℤ r ≡ ((x *ℤ r) *ℤ s) +ℤ ((p -ℤ (x *ℤ s)) *ℤ r)
apart = over4 (λ p x s r. p *ℤ r ≡ ((x *ℤ r) *ℤ s) +ℤ ((p -ℤ (x *ℤ s)) *ℤ r)) (λ p p' x x' s s' r r'. simp (diff-add, diff-sub, diff-mul) (diff-same _ _ _ _ (omega arith)))

sum-mul : (a b c s : ℤ) → ((a +ℤ b) +ℤ c) *ℤ s ≡ ((a *ℤ s) +ℤ (b *ℤ s)) +ℤ (c *ℤ s)
sum-mul = over4 (λ a b c s. ((a +ℤ b) +ℤ c) *ℤ s ≡ ((a *ℤ s) +ℤ (b *ℤ s)) +ℤ (c *ℤ s)) (λ a a' b b' c c' s s'. simp (diff-add, diff-mul) (diff-same _ _ _ _ (omega arith)))

dot-apart : (m n : ℕ) (x y w p q o s a b c : ℤ) → Bounded m (p -ℤ (x *ℤ s)) → Bounded m (q -ℤ (y *ℤ s)) → Bounded m (o -ℤ (w *ℤ s)) → Bounded n a → Bounded n b → Bounded n c
    → Bounded (3 * (m * n)) ((((p *ℤ a) +ℤ (q *ℤ b)) +ℤ (o *ℤ c)) -ℤ ((((x *ℤ a) +ℤ (y *ℤ b)) +ℤ (w *ℤ c)) *ℤ s))
dot-apart m n x y w p q o s a b c hx hy hw ha hb hc =
    sum (m * n) (p *ℤ a) (q *ℤ b) (o *ℤ c) ((x *ℤ a) *ℤ s) ((y *ℤ b) *ℤ s) ((w *ℤ c) *ℤ s) ((((x *ℤ a) +ℤ (y *ℤ b)) +ℤ (w *ℤ c)) *ℤ s)
    ((p -ℤ (x *ℤ s)) *ℤ a) ((q -ℤ (y *ℤ s)) *ℤ b) ((o -ℤ (w *ℤ s)) *ℤ c)
    (apart p x s a) (apart q y s b) (apart o w s c) (sum-mul (x *ℤ a) (y *ℤ b) (w *ℤ c) s)
    (bounded-mul m n (p -ℤ (x *ℤ s)) a hx ha) (bounded-mul m n (q -ℤ (y *ℤ s)) b hy hb) (bounded-mul m n (o -ℤ (w *ℤ s)) c hw hc)
  where
    sum : (k : ℕ) (p q o x y w t u v z : ℤ) → p ≡ x +ℤ u → q ≡ y +ℤ v → o ≡ w +ℤ z → t ≡ (x +ℤ y) +ℤ w → Bounded k u → Bounded k v → Bounded k z → Bounded (3 * k) (((p +ℤ q) +ℤ o) -ℤ t)
    sum k p q o x y w t u v z ep eq eo et hu hv hz = (omega (arith, ints, ep, eq, eo, et, hu, hv, hz), omega (arith, ints, ep, eq, eo, et, hu, hv, hz))

-- ---- by a ray a line is a form of its place

part-x : (x z : ℤ) (w h d : ℕ) → x *ℤ ((z -ℤ pos (8 * w * d)) *ℤ pos h) ≡ ((x *ℤ pos h) *ℤ z) -ℤ (x *ℤ pos (8 * w * h * d))
part-x x z w h d = over2 (λ x z. x *ℤ ((z -ℤ pos (8 * w * d)) *ℤ pos h) ≡ ((x *ℤ pos h) *ℤ z) -ℤ (x *ℤ pos (8 * w * h * d)))
    (λ x x' z z'. simp (pos_is, diff-sub, diff-mul) (diff-same _ _ _ _ (omega arith))) x z

part-y : (y z : ℤ) (w h d : ℕ) → y *ℤ ((pos (8 * h * d) -ℤ z) *ℤ pos w) ≡ (neg_ℤ (y *ℤ pos w) *ℤ z) +ℤ (y *ℤ pos (8 * w * h * d))
part-y y z w h d = over2 (λ y z. y *ℤ ((pos (8 * h * d) -ℤ z) *ℤ pos w) ≡ (neg_ℤ (y *ℤ pos w) *ℤ z) +ℤ (y *ℤ pos (8 * w * h * d)))
    (λ y y' z z'. simp (pos_is, diff-add, diff-neg, diff-mul) (diff-same _ _ _ _ (omega arith))) y z

part-c : (x y w n d : ℤ) → (((w -ℤ x) +ℤ y) *ℤ n) *ℤ d ≡ ((w *ℤ (n *ℤ d)) -ℤ (x *ℤ (n *ℤ d))) +ℤ (y *ℤ (n *ℤ d))
part-c x y w n d = over4 (λ x y w n. (((w -ℤ x) +ℤ y) *ℤ n) *ℤ d ≡ ((w *ℤ (n *ℤ d)) -ℤ (x *ℤ (n *ℤ d))) +ℤ (y *ℤ (n *ℤ d)))
    (λ x x' y y' w w' n n'. over1 (λ d. (((diff w w' -ℤ diff x x') +ℤ diff y y') *ℤ diff n n') *ℤ d ≡ ((diff w w' *ℤ (diff n n' *ℤ d)) -ℤ (diff x x' *ℤ (diff n n' *ℤ d))) +ℤ (diff y y' *ℤ (diff n n' *ℤ d)))
    (λ d d'. simp (diff-add, diff-sub, diff-mul) (diff-same _ _ _ _ (omega arith))) d) x y w n

held-form : (x y w zx zy : ℤ) (width height d : ℕ)
    → ((x *ℤ ((zx -ℤ pos (8 * width * d)) *ℤ pos height)) +ℤ (y *ℤ ((pos (8 * height * d) -ℤ zy) *ℤ pos width))) +ℤ (w *ℤ pos (8 * width * height * d))
    ≡ (((x *ℤ pos height) *ℤ zx) +ℤ (neg_ℤ (y *ℤ pos width) *ℤ zy)) +ℤ ((((w -ℤ x) +ℤ y) *ℤ pos (8 * width * height)) *ℤ pos d)
held-form x y w zx zy width height d =
    sum (x *ℤ ((zx -ℤ pos (8 * width * d)) *ℤ pos height)) (y *ℤ ((pos (8 * height * d) -ℤ zy) *ℤ pos width)) (w *ℤ pos (8 * width * height * d))
    ((x *ℤ pos height) *ℤ zx) (neg_ℤ (y *ℤ pos width) *ℤ zy) ((((w -ℤ x) +ℤ y) *ℤ pos (8 * width * height)) *ℤ pos d)
    (x *ℤ pos (8 * width * height * d)) (y *ℤ pos (8 * width * height * d))
    (part-x x zx width height d) (part-y y zy width height d) (part-c x y w (pos (8 * width * height)) (pos d))
  where
    sum : (p q o a b c x y : ℤ) → p ≡ a -ℤ x → q ≡ b +ℤ y → c ≡ (o -ℤ x) +ℤ y → (p +ℤ q) +ℤ o ≡ (a +ℤ b) +ℤ c
    sum p q o a b c x y ep eq ec = omega (arith, ints, ep, eq, ec)

-- ---- over the square a form is so far from its value in the middle

moved : (a b c px py zx zy d : ℤ) → ((a *ℤ zx) +ℤ (b *ℤ zy)) +ℤ (c *ℤ d)
    ≡ ((form a b c px py *ℤ d) +ℤ (a *ℤ (zx -ℤ (px *ℤ d)))) +ℤ (b *ℤ (zy -ℤ (py *ℤ d)))
moved a b c px py zx zy d = over4 (λ a b c px. ((a *ℤ zx) +ℤ (b *ℤ zy)) +ℤ (c *ℤ d)
    ≡ ((form a b c px py *ℤ d) +ℤ (a *ℤ (zx -ℤ (px *ℤ d)))) +ℤ (b *ℤ (zy -ℤ (py *ℤ d))))
    (λ a a' b b' c c' px px'. over4 (λ py zx zy d. ((diff a a' *ℤ zx) +ℤ (diff b b' *ℤ zy)) +ℤ (diff c c' *ℤ d)
    ≡ ((form (diff a a') (diff b b') (diff c c') (diff px px') py *ℤ d) +ℤ (diff a a' *ℤ (zx -ℤ (diff px px' *ℤ d)))) +ℤ (diff b b' *ℤ (zy -ℤ (py *ℤ d))))
    (λ py py' zx zx' zy zy' d d'. simp (diff-add, diff-sub, diff-mul) (diff-same _ _ _ _ (omega arith))) py zx zy d) a b c px

square-bounded : (a b c px py zx zy : ℤ) (d r : ℕ) → Bounded (r * d) (zx -ℤ (px *ℤ pos d)) → Bounded (r * d) (zy -ℤ (py *ℤ pos d))
    → Bounded ((r * (nat_abs a + nat_abs b)) * d) ((((a *ℤ zx) +ℤ (b *ℤ zy)) +ℤ (c *ℤ pos d)) -ℤ (form a b c px py *ℤ pos d))
square-bounded a b c px py zx zy d r hx hy =
    sum (nat_abs a * (r * d)) (nat_abs b * (r * d)) ((r * (nat_abs a + nat_abs b)) * d) (((a *ℤ zx) +ℤ (b *ℤ zy)) +ℤ (c *ℤ pos d)) (form a b c px py *ℤ pos d)
    (a *ℤ (zx -ℤ (px *ℤ pos d))) (b *ℤ (zy -ℤ (py *ℤ pos d))) (omega arith) (moved a b c px py zx zy (pos d))
    (bounded-mul (nat_abs a) (r * d) a (zx -ℤ (px *ℤ pos d)) (own-bounded a) hx) (bounded-mul (nat_abs b) (r * d) b (zy -ℤ (py *ℤ pos d)) (own-bounded b) hy)
  where
    sum : (i j k : ℕ) (f w u v : ℤ) → k ≡ i + j → f ≡ (w +ℤ u) +ℤ v → Bounded i u → Bounded j v → Bounded k (f -ℤ w)
    sum i j k f w u v ek e hu hv = (omega (arith, ints, ek, e, hu, hv), omega (arith, ints, ek, e, hu, hv))

-- ---- both together

turned-mul : (v d s : ℤ) → (v *ℤ d) *ℤ s ≡ v *ℤ (s *ℤ d)
turned-mul = over3 (λ v d s. (v *ℤ d) *ℤ s ≡ v *ℤ (s *ℤ d)) (λ v v' d d' s s'. simp diff-mul (diff-same _ _ _ _ (omega arith)))

both : (k off e s d : ℕ) (t h v : ℤ) → Bounded (3 * ((off * s) * (e * d))) (t -ℤ (h *ℤ pos s)) → Bounded (k * d) (h -ℤ (v *ℤ pos d))
    → Bounded ((k + 3 * off * e) * (s * d)) (t -ℤ (v *ℤ pos (s * d)))
both k off e s d t h v ht hh =
    sum (3 * ((off * s) * (e * d))) ((k * d) * s) ((k + 3 * off * e) * (s * d)) t (h *ℤ pos s) ((h -ℤ (v *ℤ pos d)) *ℤ pos s) ((v *ℤ pos d) *ℤ pos s) (v *ℤ pos (s * d))
    (omega arith) (sub-mul h (v *ℤ pos d) (pos s)) (turned-mul v (pos d) (pos s)) ht (bounded-mul (k * d) s (h -ℤ (v *ℤ pos d)) (pos s) hh (pos-bounded s))
  where
    sum : (i j n : ℕ) (t h g u w : ℤ) → n ≡ i + j → g ≡ h -ℤ u → u ≡ w → Bounded i (t -ℤ h) → Bounded j g → Bounded n (t -ℤ w)
    sum i j n t h g u w en eg eu ht hg = (omega (arith, ints, en, eg, eu, ht, hg), omega (arith, ints, en, eg, eu, ht, hg))

below : (v t down : ℤ) (k n : ℕ) → down ≡ pos k → Bounded (k * n) (t -ℤ (v *ℤ pos n)) → ((v -ℤ down) *ℤ pos n) ≤ℤ t
below v t down k n e h = let s = sub-mul v (pos k) (pos n) in rw e (linear ((v -ℤ pos k) *ℤ pos n) (v *ℤ pos n) t (k * n) s h)
  where
    linear : (l u t : ℤ) (m : ℕ) → l ≡ u -ℤ pos m → Bounded m (t -ℤ u) → l ≤ℤ t
    linear l u t m e h = omega (arith, ints, e, h)

above : (v t down : ℤ) (k n : ℕ) → down ≡ pos k → Bounded (k * n) (t -ℤ (v *ℤ pos n)) → t ≤ℤ ((v +ℤ down) *ℤ pos n)
above v t down k n e h = let s = add-mul v (pos k) (pos n) in rw e (linear ((v +ℤ pos k) *ℤ pos n) (v *ℤ pos n) t (k * n) s h)
  where
    linear : (l u t : ℤ) (m : ℕ) → l ≡ u +ℤ pos m → Bounded m (t -ℤ u) → t ≤ℤ l
    linear l u t m e h = omega (arith, ints, e, h)

module _ (width height reach off scale : ℕ) (l line : Clip) (f : Form) (made : IsMadeOf width height reach off l f) (stands : StandsFor scale off l line) where
  around : (px py : ℕ) → px < width → py < height → (z : Place) → InSquare reach px py z
      → Bounded ((reach * (nat_abs f.a + nat_abs f.b) + 3 * off * (8 * width * height + reach * max width height)) * (scale * z.d))
      (dot line (ray_through (dimensions width height) z) -ℤ (value_at f (middle px py) *ℤ pos (scale * z.d)))
  around px py hx hy z h =
      let mw : width ≤ max width height = omega arith in let mh : height ≤ max width height = omega arith in
      let apart-line = dot-apart (off * scale) ((8 * width * height + reach * max width height) * z.d) l.x l.y l.w line.x line.y line.w (pos scale)
      ((z.x -ℤ pos (8 * width * z.d)) *ℤ pos height) ((pos (8 * height * z.d) -ℤ z.y) *ℤ pos width) (pos (8 * width * height * z.d))
      stands.x stands.y stands.w (ray-x reach px width height z.d (max width height) z.x hx mh h.across) (ray-y reach py width height z.d (max width height) z.y hy mw h.down) (ray-w reach width height z.d (max width height)) in
      let is = held-form l.x l.y l.w z.x z.y width height z.d in
      let square = square-bounded f.a f.b f.c (pos (16 * px + 8)) (pos (16 * py + 8)) z.x z.y z.d reach h.across h.down in
      both (reach * (nat_abs f.a + nat_abs f.b)) off (8 * width * height + reach * max width height) scale z.d (dot line (ray_through (dimensions width height) z)) (dot l (ray_through (dimensions width height) z)) (value_at f (middle px py))
      apart-line (of_held (dot l (ray_through (dimensions width height) z)) z.x z.y z.d is ((reach * (nat_abs f.a + nat_abs f.b)) * z.d) (value_at f (middle px py) *ℤ pos z.d) square)
    where
      of_held : (h zx zy : ℤ) (d : ℕ) → h ≡ (((l.x *ℤ pos height) *ℤ zx) +ℤ (neg_ℤ (l.y *ℤ pos width) *ℤ zy)) +ℤ ((((l.w -ℤ l.x) +ℤ l.y) *ℤ pos (8 * width * height)) *ℤ pos d)
          → (m : ℕ) (v : ℤ) → Bounded m ((((f.a *ℤ zx) +ℤ (f.b *ℤ zy)) +ℤ (f.c *ℤ pos d)) -ℤ v) → Bounded m (h -ℤ v)
      of_held h zx zy d e m v b = let ea = made.a in let eb = made.b in let ec = made.c in rw e (rw (ea, eb, ec) at b)

  pub form-stands : IsFormOf (dimensions width height) reach scale f line
  form-stands = record {
    low = λ px py hx hy z h. below (value_at f (middle px py)) (dot line (ray_through (dimensions width height) z)) f.down
        (reach * (nat_abs f.a + nat_abs f.b) + 3 * off * (8 * width * height + reach * max width height)) (scale * z.d) made.down (around px py hx hy z h);
    high = λ px py hx hy z h. above (value_at f (middle px py)) (dot line (ray_through (dimensions width height) z)) f.down
        (reach * (nat_abs f.a + nat_abs f.b) + 3 * off * (8 * width * height + reach * max width height)) (scale * z.d) made.down (around px py hx hy z h);
  }

-- What a ray has to do with a triangle: its weights by the triangle's lines, and where it is met.
use Rattle.std.proofs.Common.{◌≡◌, ◌∙◌, ℕ, ℤ, pos, negsuc, neg_ℤ, ◌+ℤ◌, ◌-ℤ◌, ◌*ℤ◌, ◌≤ℤ◌, ◌<ℤ◌, Bool, true, false, not, cond, int_lt, arith, refl, ap, ap₂, sym}
use Rattle.std.proofs.lemmas.Int.{ints}
use Rattle.std.proofs.lemmas.Bool.Decides.{nat_tests}
use Rattle.cull_base.specs.declared.triangle.Winding.{Winding}
use Rattle.cull_base.specs.declared.triangle.Winding.TheVariants.{Both, DropClockwise, DropCounter}
use Rattle.cull_base.proofs.Ring.{diff, diff-add, diff-sub, diff-mul, diff-neg, diff-same, over2, over4}
use Rattle.depth_plane.proofs.Products.{mul-add_three}
use Rattle.depth_plane.proofs.Mean.{mean_above}
use Rattle.exact_clip.specs.Clip.{Clip}
use Rattle.clip_lines.specs.Lines.{cross, dot, det, sum_of}
use Rattle.pixel_forms.specs.Rays.{turned, size_of, weight_a, weight_b, weight_c, weight_of, Meets, IsUncut, keeps}
use Rattle.pixel_forms.specs.Seen.{turned_line, keeps_turned}
use Rattle.pixel_forms.specs.Certified.{face}
use Rattle.pixel_forms.proofs.Numbers.{over6, over9, mul-turned}

abbrev clip : ℤ → ℤ → ℤ → Clip
clip x y w = record { x = x; y = y; w = w }

-- ---- determinants with a ray are products of the ray and a line

by-a : (b c r : Clip) → det r b c ≡ dot (cross b c) r
by-a b c r = over9 (λ bx by bw cx cy cw rx ry rw. det (clip rx ry rw) (clip bx by bw) (clip cx cy cw) ≡ dot (cross (clip bx by bw) (clip cx cy cw)) (clip rx ry rw))
    (λ a a' b b' c c' d d' e e' f f' g g' h h' i i'. simp (diff-add, diff-sub, diff-mul) (diff-same _ _ _ _ (omega arith))) b.x b.y b.w c.x c.y c.w r.x r.y r.w

by-b : (a c r : Clip) → det a r c ≡ dot (cross c a) r
by-b a c r = over9 (λ ax ay aw cx cy cw rx ry rw. det (clip ax ay aw) (clip rx ry rw) (clip cx cy cw) ≡ dot (cross (clip cx cy cw) (clip ax ay aw)) (clip rx ry rw))
    (λ a a' b b' c c' d d' e e' f f' g g' h h' i i'. simp (diff-add, diff-sub, diff-mul) (diff-same _ _ _ _ (omega arith))) a.x a.y a.w c.x c.y c.w r.x r.y r.w

by-c : (a b r : Clip) → det a b r ≡ dot (cross a b) r
by-c a b r = over9 (λ ax ay aw bx by bw rx ry rw. det (clip ax ay aw) (clip bx by bw) (clip rx ry rw) ≡ dot (cross (clip ax ay aw) (clip bx by bw)) (clip rx ry rw))
    (λ a a' b b' c c' d d' e e' f f' g g' h h' i i'. simp (diff-add, diff-sub, diff-mul) (diff-same _ _ _ _ (omega arith))) a.x a.y a.w b.x b.y b.w r.x r.y r.w

-- a line the other way round
pub opposite : (a c r : Clip) → dot (cross a c) r ≡ neg_ℤ (dot (cross c a) r)
opposite a c r = over9 (λ ax ay aw cx cy cw rx ry rw. dot (cross (clip ax ay aw) (clip cx cy cw)) (clip rx ry rw) ≡ neg_ℤ (dot (cross (clip cx cy cw) (clip ax ay aw)) (clip rx ry rw)))
    (λ a a' b b' c c' d d' e e' f f' g g' h h' i i'. simp (diff-add, diff-mul, diff-neg) (diff-same _ _ _ _ (omega arith))) a.x a.y a.w c.x c.y c.w r.x r.y r.w

pub turned-dot : (t : Bool) (l r : Clip) → dot (turned_line t l) r ≡ cond t (neg_ℤ (dot l r)) (dot l r)
turned-dot false l r = refl
turned-dot true l r = over6 (λ lx ly lw rx ry rw. dot (clip (neg_ℤ lx) (neg_ℤ ly) (neg_ℤ lw)) (clip rx ry rw) ≡ neg_ℤ (dot (clip lx ly lw) (clip rx ry rw)))
    (λ a a' b b' c c' d d' e e' f f'. simp (diff-add, diff-mul, diff-neg) (diff-same _ _ _ _ (omega arith))) l.x l.y l.w r.x r.y r.w

add-mul_three : (a b c r : ℤ) → ((a +ℤ b) +ℤ c) *ℤ r ≡ ((a *ℤ r) +ℤ (b *ℤ r)) +ℤ (c *ℤ r)
add-mul_three = over4 (λ a b c r. ((a +ℤ b) +ℤ c) *ℤ r ≡ ((a *ℤ r) +ℤ (b *ℤ r)) +ℤ (c *ℤ r)) (λ a a' b b' c c' r r'. simp (diff-add, diff-mul) (diff-same _ _ _ _ (omega arith)))

dot-sum : (p q s r : Clip) → dot (sum_of (sum_of p q) s) r ≡ (dot p r +ℤ dot q r) +ℤ dot s r
dot-sum p q s r =
    sum (((p.x +ℤ q.x) +ℤ s.x) *ℤ r.x) (((p.y +ℤ q.y) +ℤ s.y) *ℤ r.y) (((p.w +ℤ q.w) +ℤ s.w) *ℤ r.w) (p.x *ℤ r.x) (q.x *ℤ r.x) (s.x *ℤ r.x) (p.y *ℤ r.y) (q.y *ℤ r.y) (s.y *ℤ r.y) (p.w *ℤ r.w) (q.w *ℤ r.w) (s.w *ℤ r.w)
    (add-mul_three p.x q.x s.x r.x) (add-mul_three p.y q.y s.y r.y) (add-mul_three p.w q.w s.w r.w)
  where
    sum : (l m n a b c d e f g h i : ℤ) → l ≡ (a +ℤ b) +ℤ c → m ≡ (d +ℤ e) +ℤ f → n ≡ (g +ℤ h) +ℤ i → (l +ℤ m) +ℤ n ≡ (((a +ℤ d) +ℤ g) +ℤ ((b +ℤ e) +ℤ h)) +ℤ ((c +ℤ f) +ℤ i)
    sum l m n a b c d e f g h i x y z = omega (arith, ints, x, y, z)

-- ---- weights

-- what is turned by a sign, turned by the same told by a test
told : (t : Bool) (v x : ℤ) → t ≡ int_lt v (pos 0) → turned v x ≡ cond t (neg_ℤ x) x
told t v x e = ap (λ b. cond b (neg_ℤ x) x) (sym e)

line-weight : (t : Bool) (v x : ℤ) (l r : Clip) → t ≡ int_lt v (pos 0) → x ≡ dot l r → turned v x ≡ dot (turned_line t l) r
line-weight t v x l r e f = told t v x e ∙ ap (λ y. cond t (neg_ℤ y) y) f ∙ sym (turned-dot t l r)

pub weight-a_is : (t : Bool) (a b c r : Clip) → t ≡ int_lt (det a b c) (pos 0) → weight_a (face a b c) r ≡ dot (turned_line t (cross b c)) r
weight-a_is t a b c r e = line-weight t (det a b c) (det r b c) (cross b c) r e (by-a b c r)

pub weight-b_is : (t : Bool) (a b c r : Clip) → t ≡ int_lt (det a b c) (pos 0) → weight_b (face a b c) r ≡ dot (turned_line t (cross c a)) r
weight-b_is t a b c r e = line-weight t (det a b c) (det a r c) (cross c a) r e (by-b a c r)

pub weight-c_is : (t : Bool) (a b c r : Clip) → t ≡ int_lt (det a b c) (pos 0) → weight_c (face a b c) r ≡ dot (turned_line t (cross a b)) r
weight-c_is t a b c r e = line-weight t (det a b c) (det a b r) (cross a b) r e (by-c a b r)

turned-sum : (t : Bool) (p q s r : Clip) → (dot (turned_line t q) r +ℤ dot (turned_line t s) r) +ℤ dot (turned_line t p) r ≡ dot (turned_line t (sum_of (sum_of p q) s)) r
turned-sum t p q s r = both t (dot p r) (dot q r) (dot s r) (dot (sum_of (sum_of p q) s) r) (dot (turned_line t p) r) (dot (turned_line t q) r) (dot (turned_line t s) r) (dot (turned_line t (sum_of (sum_of p q) s)) r)
    (dot-sum p q s r) (turned-dot t p r) (turned-dot t q r) (turned-dot t s r) (turned-dot t (sum_of (sum_of p q) s) r)
  where
    both : (t : Bool) (p q s m p' q' s' m' : ℤ) → m ≡ (p +ℤ q) +ℤ s → p' ≡ cond t (neg_ℤ p) p → q' ≡ cond t (neg_ℤ q) q → s' ≡ cond t (neg_ℤ s) s → m' ≡ cond t (neg_ℤ m) m → (q' +ℤ s') +ℤ p' ≡ m'
    both false p q s m p' q' s' m' e ep eq es em = omega (arith, ints, e, ep, eq, es, em)
    both true p q s m p' q' s' m' e ep eq es em = omega (arith, ints, e, ep, eq, es, em)

-- all weights together are the product with the sum of the lines
pub weight-of_is : (t : Bool) (a b c r : Clip) → t ≡ int_lt (det a b c) (pos 0) → weight_of (face a b c) r ≡ dot (turned_line t (sum_of (sum_of (cross a b) (cross b c)) (cross c a))) r
weight-of_is t a b c r e =
    ap₂ (λ x y. x +ℤ y) (ap₂ (λ x y. x +ℤ y) (weight-a_is t a b c r e) (weight-b_is t a b c r e)) (weight-c_is t a b c r e)
    ∙ turned-sum t (cross a b) (cross b c) (cross c a) r

pub size_is : (t : Bool) (a b c : Clip) → t ≡ int_lt (det a b c) (pos 0) → cond t (neg_ℤ (det a b c)) (det a b c) ≡ size_of (face a b c)
size_is t a b c e = sym (told t (det a b c) (det a b c) e)

-- ---- the point that is met

zero_is : (a b : ℕ) → a ≡ b → diff a b ≡ pos 0
unfolding diff
zero_is a b e = omega (arith, ints, e)

none-across : (ay aw by bw cy cw : ℤ) → ((((by *ℤ cw) -ℤ (bw *ℤ cy)) *ℤ aw) +ℤ (((cy *ℤ aw) -ℤ (cw *ℤ ay)) *ℤ bw)) +ℤ (((ay *ℤ bw) -ℤ (aw *ℤ by)) *ℤ cw) ≡ pos 0
none-across = over6 (λ ay aw by bw cy cw. ((((by *ℤ cw) -ℤ (bw *ℤ cy)) *ℤ aw) +ℤ (((cy *ℤ aw) -ℤ (cw *ℤ ay)) *ℤ bw)) +ℤ (((ay *ℤ bw) -ℤ (aw *ℤ by)) *ℤ cw) ≡ pos 0)
    (λ a a' b b' c c' d d' e e' f f'. simp (diff-add, diff-sub, diff-mul) (zero_is _ _ (omega arith)))

none-along : (ax aw bx bw cx cw : ℤ) → ((((bw *ℤ cx) -ℤ (bx *ℤ cw)) *ℤ aw) +ℤ (((cw *ℤ ax) -ℤ (cx *ℤ aw)) *ℤ bw)) +ℤ (((aw *ℤ bx) -ℤ (ax *ℤ bw)) *ℤ cw) ≡ pos 0
none-along = over6 (λ ax aw bx bw cx cw. ((((bw *ℤ cx) -ℤ (bx *ℤ cw)) *ℤ aw) +ℤ (((cw *ℤ ax) -ℤ (cx *ℤ aw)) *ℤ bw)) +ℤ (((aw *ℤ bx) -ℤ (ax *ℤ bw)) *ℤ cw) ≡ pos 0)
    (λ a a' b b' c c' d d' e e' f f'. simp (diff-add, diff-sub, diff-mul) (zero_is _ _ (omega arith)))

whole-distance : (ax ay aw bx by bw cx cy cw : ℤ) → ((((bx *ℤ cy) -ℤ (by *ℤ cx)) *ℤ aw) +ℤ (((cx *ℤ ay) -ℤ (cy *ℤ ax)) *ℤ bw)) +ℤ (((ax *ℤ by) -ℤ (ay *ℤ bx)) *ℤ cw) ≡ det (clip ax ay aw) (clip bx by bw) (clip cx cy cw)
whole-distance = over9 (λ ax ay aw bx by bw cx cy cw. ((((bx *ℤ cy) -ℤ (by *ℤ cx)) *ℤ aw) +ℤ (((cx *ℤ ay) -ℤ (cy *ℤ ax)) *ℤ bw)) +ℤ (((ax *ℤ by) -ℤ (ay *ℤ bx)) *ℤ cw) ≡ det (clip ax ay aw) (clip bx by bw) (clip cx cy cw))
    (λ a a' b b' c c' d d' e e' f f' g g' h h' i i'. simp (diff-add, diff-sub, diff-mul) (diff-same _ _ _ _ (omega arith)))

-- a product with a line, times a number
dot-times : (l r : Clip) (n : ℤ) → dot l r *ℤ n ≡ ((r.x *ℤ (l.x *ℤ n)) +ℤ (r.y *ℤ (l.y *ℤ n))) +ℤ (r.w *ℤ (l.w *ℤ n))
dot-times l r n =
    sum (dot l r *ℤ n) ((l.x *ℤ r.x) *ℤ n) ((l.y *ℤ r.y) *ℤ n) ((l.w *ℤ r.w) *ℤ n) (r.x *ℤ (l.x *ℤ n)) (r.y *ℤ (l.y *ℤ n)) (r.w *ℤ (l.w *ℤ n))
    (add-mul_three (l.x *ℤ r.x) (l.y *ℤ r.y) (l.w *ℤ r.w) n) (mul-turned l.x r.x n) (mul-turned l.y r.y n) (mul-turned l.w r.w n)
  where
    sum : (d p q o a b c : ℤ) → d ≡ (p +ℤ q) +ℤ o → p ≡ a → q ≡ b → o ≡ c → d ≡ (a +ℤ b) +ℤ c
    sum d p q o a b c e f g h = omega (arith, ints, e, f, g, h)

-- one part of the three lines' products
column : (r l m n a b c t : ℤ) → ((l *ℤ a) +ℤ (m *ℤ b)) +ℤ (n *ℤ c) ≡ t → ((r *ℤ (l *ℤ a)) +ℤ (r *ℤ (m *ℤ b))) +ℤ (r *ℤ (n *ℤ c)) ≡ r *ℤ t
column r l m n a b c t e = sym (mul-add_three r (l *ℤ a) (m *ℤ b) (n *ℤ c)) ∙ ap (λ z. r *ℤ z) e

nothing : (r : ℤ) → r *ℤ pos 0 ≡ pos 0
nothing (pos n) = omega (arith, ints)
nothing (negsuc n) = omega (arith, ints)

mean-distance : (a b c r : Clip) → ((dot (cross b c) r *ℤ a.w) +ℤ (dot (cross c a) r *ℤ b.w)) +ℤ (dot (cross a b) r *ℤ c.w) ≡ r.w *ℤ det a b c
mean-distance a b c r =
    sum (dot (cross b c) r *ℤ a.w) (dot (cross c a) r *ℤ b.w) (dot (cross a b) r *ℤ c.w)
    (r.x *ℤ ((cross b c).x *ℤ a.w)) (r.x *ℤ ((cross c a).x *ℤ b.w)) (r.x *ℤ ((cross a b).x *ℤ c.w))
    (r.y *ℤ ((cross b c).y *ℤ a.w)) (r.y *ℤ ((cross c a).y *ℤ b.w)) (r.y *ℤ ((cross a b).y *ℤ c.w))
    (r.w *ℤ ((cross b c).w *ℤ a.w)) (r.w *ℤ ((cross c a).w *ℤ b.w)) (r.w *ℤ ((cross a b).w *ℤ c.w)) (r.w *ℤ det a b c)
    (dot-times (cross b c) r a.w) (dot-times (cross c a) r b.w) (dot-times (cross a b) r c.w)
    (column r.x (cross b c).x (cross c a).x (cross a b).x a.w b.w c.w (pos 0) (none-across a.y a.w b.y b.w c.y c.w) ∙ nothing r.x)
    (column r.y (cross b c).y (cross c a).y (cross a b).y a.w b.w c.w (pos 0) (none-along a.x a.w b.x b.w c.x c.w) ∙ nothing r.y)
    (column r.w (cross b c).w (cross c a).w (cross a b).w a.w b.w c.w (det a b c) (whole-distance a.x a.y a.w b.x b.y b.w c.x c.y c.w))
  where
    sum : (p q o a d g b e h c f i v : ℤ) → p ≡ (a +ℤ b) +ℤ c → q ≡ (d +ℤ e) +ℤ f → o ≡ (g +ℤ h) +ℤ i → (a +ℤ d) +ℤ g ≡ pos 0 → (b +ℤ e) +ℤ h ≡ pos 0 → (c +ℤ f) +ℤ i ≡ v → (p +ℤ q) +ℤ o ≡ v
    sum p q o a d g b e h c f i v ep eq eo x y z = omega (arith, ints, ep, eq, eo, x, y, z)

mul-comm : (a b : ℤ) → a *ℤ b ≡ b *ℤ a
mul-comm = over2 (λ a b. a *ℤ b ≡ b *ℤ a) (λ a a' b b'. simp diff-mul (diff-same _ _ _ _ (omega arith)))

mul-neg : (a b : ℤ) → a *ℤ neg_ℤ b ≡ neg_ℤ (a *ℤ b)
mul-neg = over2 (λ a b. a *ℤ neg_ℤ b ≡ neg_ℤ (a *ℤ b)) (λ a a' b b'. simp (diff-neg, diff-mul) (diff-same _ _ _ _ (omega arith)))

turned-mean : (t : Bool) (v u x y a b c w : ℤ) → ((u *ℤ a) +ℤ (x *ℤ b)) +ℤ (y *ℤ c) ≡ w *ℤ v
    → w *ℤ cond t (neg_ℤ v) v ≡ ((a *ℤ cond t (neg_ℤ u) u) +ℤ (b *ℤ cond t (neg_ℤ x) x)) +ℤ (c *ℤ cond t (neg_ℤ y) y)
turned-mean false v u x y a b c w e = let p = mul-comm u a in let q = mul-comm x b in let o = mul-comm y c in sum (u *ℤ a) (x *ℤ b) (y *ℤ c) (a *ℤ u) (b *ℤ x) (c *ℤ y) (w *ℤ v) p q o e
  where
    sum : (p q o a b c v : ℤ) → p ≡ a → q ≡ b → o ≡ c → (p +ℤ q) +ℤ o ≡ v → v ≡ (a +ℤ b) +ℤ c
    sum p q o a b c v ep eq eo e = omega (arith, ints, ep, eq, eo, e)
turned-mean true v u x y a b c w e =
    sum (u *ℤ a) (x *ℤ b) (y *ℤ c) (a *ℤ u) (b *ℤ x) (c *ℤ y) (w *ℤ v) (a *ℤ neg_ℤ u) (b *ℤ neg_ℤ x) (c *ℤ neg_ℤ y) (w *ℤ neg_ℤ v)
    (mul-comm u a) (mul-comm x b) (mul-comm y c) e (mul-neg a u) (mul-neg b x) (mul-neg c y) (mul-neg w v)
  where
    sum : (p q o a b c v d f g h : ℤ) → p ≡ a → q ≡ b → o ≡ c → (p +ℤ q) +ℤ o ≡ v → d ≡ neg_ℤ a → f ≡ neg_ℤ b → g ≡ neg_ℤ c → h ≡ neg_ℤ v → h ≡ (d +ℤ f) +ℤ g
    sum p q o a b c v d f g h ep eq eo e ed ef eg eh = omega (arith, ints, ep, eq, eo, e, ed, ef, eg, eh)

-- the ray's w times the size is the sum of the corners' w, each times its weight
met-distance : (a b c r : Clip) → r.w *ℤ size_of (face a b c) ≡ ((a.w *ℤ weight_a (face a b c) r) +ℤ (b.w *ℤ weight_b (face a b c) r)) +ℤ (c.w *ℤ weight_c (face a b c) r)
met-distance a b c r =
    turned-mean (int_lt (det a b c) (pos 0)) (det a b c) (det r b c) (det a r c) (det a b r) a.w b.w c.w r.w
    (ap₂ (λ x y. x +ℤ y) (ap₂ (λ x y. x +ℤ y) (ap (λ x. x *ℤ a.w) (by-a b c r)) (ap (λ x. x *ℤ b.w) (by-b a c r))) (ap (λ x. x *ℤ c.w) (by-c a b r)) ∙ mean-distance a b c r)

-- no corner before the near distance
pub front-uncut : (near : ℤ) (a b c r : Clip) → near ≤ℤ a.w → near ≤ℤ b.w → near ≤ℤ c.w → Meets (face a b c) r → IsUncut near (face a b c) r
front-uncut near a b c r ha hb hc m =
    mean_above a.w b.w c.w (weight_a (face a b c) r) (weight_b (face a b c) r) (weight_c (face a b c) r) near (weight_of (face a b c) r) (r.w *ℤ size_of (face a b c))
    m.a m.b m.c ha hb hc refl (met-distance a b c r)

-- ---- the winding

forward : (t : Bool) (v : ℤ) → t ≡ int_lt v (pos 0) → not t ≡ true → pos 0 <ℤ turned v v → int_lt (pos 0) v ≡ true
forward t (pos n) e k h = grind (arith, ints, nat_tests)
forward false (negsuc n) e k h = cc
forward true (negsuc n) e k h = cc

pub kept : (winding : Winding) (t : Bool) (a b c : Clip) → t ≡ int_lt (det a b c) (pos 0) → pos 0 <ℤ size_of (face a b c) → keeps_turned winding t ≡ true → keeps winding (face a b c) ≡ true
kept Both t a b c e h k = refl
kept DropClockwise t a b c e h k = forward t (det a b c) e k h
kept DropCounter t a b c e h k = sym e ∙ k

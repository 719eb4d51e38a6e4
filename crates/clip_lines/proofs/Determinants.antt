-- The determinant of a triangle: a corner's product with the sum of the lines.
use Rattle.std.proofs.Common.{◌≡◌, ◌∙◌, ℕ, ℤ, pos, negsuc, neg_ℤ, nat_abs, zero, suc, ◌<◌, ◌≤◌, ◌+◌, ◌*◌, ◌*ℤ◌, ◌≤ℤ◌, ◌<ℤ◌, int_lt, true, false, cond, arith, refl, subst, sym}
use Rattle.std.proofs.lemmas.Int.{ints}
use Rattle.std.proofs.Math.Nat.{mul-le-mul}
use Rattle.cull_base.proofs.Ring.{diff, diff-add, diff-sub, diff-mul, diff-same, over3}
use Rattle.exact_clip.specs.Clip.{Clip}
use Rattle.clip_lines.specs.Lines.{cross, det, dot, sum_of, IsWithin, StandsFor}
use Rattle.clip_lines.specs.Parts.{of_corner, of_line}
use Rattle.clip_lines.specs.Planes.{sum_of_lines, unsure_of, AreOf, IsPlaneOf}
use Rattle.clip_lines.specs.declared.corner.Corner.{Corner}
use Rattle.clip_lines.specs.declared.line.Line.{Line}
use Rattle.clip_lines.specs.declared.plane.Plane.{Plane}
use Rattle.clip_lines.proofs.Errors.{product-within, sum-within, neg-within}

abbrev clip : ℤ → ℤ → ℤ → Clip
clip x y w = record { x = x; y = y; w = w }

abbrev over9 : (P : ℤ → ℤ → ℤ → ℤ → ℤ → ℤ → ℤ → ℤ → ℤ → Type 0) → ((a a' b b' c c' d d' e e' f f' g g' h h' i i' : ℕ) → P (diff a a') (diff b b') (diff c c') (diff d d') (diff e e') (diff f f') (diff g g') (diff h h') (diff i i'))
    → (r s t u v w x y z : ℤ) → P r s t u v w x y z
over9 P k r s t u v w x y z =
    over3 (λ r s t. P r s t u v w x y z) (λ a a' b b' c c'. over3 (λ u v w. P (diff a a') (diff b b') (diff c c') u v w x y z) (λ d d' e e' f f'. over3 (λ x y z. P (diff a a') (diff b b') (diff c c') (diff d d') (diff e e') (diff f f') x y z) (λ g g' h h' i i'. k a a' b b' c c' d d' e e' f f' g g' h h' i i') x y z) u v w) r s t

abbrev lines_of : Clip → Clip → Clip → Clip
lines_of a b c = sum_of (sum_of (cross a b) (cross b c)) (cross c a)

own : (ax ay aw bx by bw cx cy cw : ℤ) → dot (lines_of (clip ax ay aw) (clip bx by bw) (clip cx cy cw)) (clip ax ay aw) ≡ det (clip ax ay aw) (clip bx by bw) (clip cx cy cw)
own = over9 (λ ax ay aw bx by bw cx cy cw. dot (lines_of (clip ax ay aw) (clip bx by bw) (clip cx cy cw)) (clip ax ay aw) ≡ det (clip ax ay aw) (clip bx by bw) (clip cx cy cw))
    (λ a a' b b' c c' d d' e e' f f' g g' h h' i i'. simp (diff-add, diff-sub, diff-mul) (diff-same _ _ _ _ (omega arith)))

-- a corner's product with the sum of the lines
pub own-product : (a b c : Clip) → dot (lines_of a b c) a ≡ det a b c
own-product a b c = own a.x a.y a.w b.x b.y b.w c.x c.y c.w

pub lines-stand : (s : ℕ) (p : Corner) (l m n : Line) (a b c : Clip) → AreOf s p l m n a b c
    → StandsFor (s * s) (sum_of_lines l m n).off (of_line (sum_of_lines l m n)) (lines_of a b c)
lines-stand s p l m n a b c h = record {
  x = sum-within (s * s) l.off m.off n.off _ l.x m.x n.x (cross a b).x (cross b c).x (cross c a).x refl h.ab.x h.bc.x h.ca.x;
  y = sum-within (s * s) l.off m.off n.off _ l.y m.y n.y (cross a b).y (cross b c).y (cross c a).y refl h.ab.y h.bc.y h.ca.y;
  w = sum-within (s * s) l.off m.off n.off _ l.w m.w n.w (cross a b).w (cross b c).w (cross c a).w refl h.ab.w h.bc.w h.ca.w;
}

-- a line's product with a corner
pub dot-within : (s : ℕ) (p : Corner) (l : Line) (a m : Clip) → StandsFor s 1 (of_corner p) a → StandsFor (s * s) l.off (of_line l) m
    → IsWithin ((s * s) * s) (unsure_of p l) (dot (of_line l) (of_corner p)) (dot m a)
dot-within s p l a m h i =
    sum-within ((s * s) * s) ((nat_abs l.x * 1 + nat_abs p.x * l.off) + l.off * 1) ((nat_abs l.y * 1 + nat_abs p.y * l.off) + l.off * 1) ((nat_abs l.w * 1 + nat_abs p.w * l.off) + l.off * 1) (unsure_of p l)
    (l.x *ℤ p.x) (l.y *ℤ p.y) (l.w *ℤ p.w) (m.x *ℤ a.x) (m.y *ℤ a.y) (m.w *ℤ a.w) (omega arith)
    (product-within (s * s) s l.off 1 l.x p.x m.x a.x i.x h.x) (product-within (s * s) s l.off 1 l.y p.y m.y a.y i.y h.y) (product-within (s * s) s l.off 1 l.w p.w m.w a.w i.w h.w)

cube-positive : (s : ℕ) → 0 < s → 0 < (s * s) * s
cube-positive (suc s) h = omega arith
cube-positive zero h = absurd (omega (arith, h))

not-below : (x : ℤ) → pos 0 ≤ℤ x → int_lt x (pos 0) ≡ false
not-below x h = grind (arith, ints, h)

is-below : (x : ℤ) → x <ℤ pos 0 → int_lt x (pos 0) ≡ true
is-below x h = grind (arith, ints, h)

-- more than it is off by: it has the sign of what it stands for
sign-known : (s u : ℕ) (d x : ℤ) → 0 < s → u < nat_abs d → IsWithin s u d x → int_lt d (pos 0) ≡ int_lt x (pos 0)
sign-known s u (pos d) x h l i =
    let same : s ≤ s = omega arith in let le : u ≤ d = omega (arith, l) in let k = mul-le-mul le same in
    not-below (pos d) (omega (arith, ints)) ∙ sym (not-below x (omega (arith, ints, i, k)))
sign-known s u (negsuc d) x h l i =
    let same : s ≤ s = omega arith in let le : u + 1 ≤ suc d = omega (arith, l) in let k = mul-le-mul le same in
    is-below (negsuc d) (omega (arith, ints)) ∙ sym (is-below x (omega (arith, ints, i, k, h)))

size-within : (s u : ℕ) (d x : ℤ) → IsWithin s u d x → IsWithin s u (pos (nat_abs d)) (cond (int_lt d (pos 0)) (neg_ℤ x) x)
size-within s u (pos d) x h = let e = not-below (pos d) (omega (arith, ints)) in rw e h
size-within s u (negsuc d) x h = neg-within s u (negsuc d) x h

pub plane-stands : (s : ℕ) (p : Corner) (l m n : Line) (a b c : Clip) (plane : Plane) → plane.sum ≡ sum_of_lines l m n
    → plane.length ≡ nat_abs (dot (of_line plane.sum) (of_corner p)) → plane.unsure ≡ unsure_of p plane.sum
    → plane.is_turned ≡ int_lt (dot (of_line plane.sum) (of_corner p)) (pos 0) → plane.unsure < plane.length
    → AreOf s p l m n a b c → IsPlaneOf s plane a b c
plane-stands s p l m n a b c plane es el eu et sure h =
    let lines = subst (λ (z : Line). StandsFor (s * s) z.off (of_line z) (lines_of a b c)) (sym es) (lines-stand s p l m n a b c h) in
    let d = dot (of_line plane.sum) (of_corner p) in
    let w : IsWithin ((s * s) * s) (unsure_of p plane.sum) d (det a b c) = subst (λ x. IsWithin ((s * s) * s) (unsure_of p plane.sum) d x) (own-product a b c) (dot-within s p plane.sum a (lines_of a b c) h.first lines) in
    let t : unsure_of p plane.sum < nat_abs d = subst (λ x. x < nat_abs d) eu (subst (λ x. plane.unsure < x) el sure) in
    record {
      sum = lines;
      sign = et ∙ sign-known ((s * s) * s) (unsure_of p plane.sum) d (det a b c) (cube-positive s h.proper) t w;
      size = rw (el, eu, et) (size-within ((s * s) * s) (unsure_of p plane.sum) d (det a b c) w);
    }

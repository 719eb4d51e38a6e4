-- The points of a clipped triangle stay within the guard.
use Rattle.std.proofs.Common.{◌≡◌, ℕ, ℤ, pos, negsuc, ◌*◌, ◌≤◌, ◌<ℤ◌, ◌≤ℤ◌, ◌+ℤ◌, ◌-ℤ◌, ◌*ℤ◌, Bool, true, false, arith, refl, List, [], ◌∷◌, length}
use Rattle.std.proofs.lemmas.Int.{ints}
use Rattle.std.specs.List.{All}
use Rattle.std.proofs.lemmas.List.Elements.{All-nil, All-cons}
use Rattle.cull_base.specs.Bounds.{Bounded}
use Rattle.cull_base.specs.declared.clip.ClipVertex.{ClipVertex}
use Rattle.cull_base.proofs.Bounds.{times-bounded}
use Rattle.cull_base.proofs.Ring.{diff-add, diff-sub, diff-mul, diff-same, over3}
use Rattle.near_clip.specs.declared.hom_point.HomPoint.{HomPoint}
use Rattle.near_clip.specs.NearPart.{corner, is_in_front, whole, cut_point, part_by, near_part}
use Rattle.near_clip.specs.Reach.{IsInReach, WithinScaled}
use Rattle.near_clip.proofs.Guarded.{IsGuarded}

-- a mean of two bounded numbers, by natural weights
mean_within : (g m n : ℕ) (b a : ℤ) → Bounded g b → Bounded g a → WithinScaled g (pos m +ℤ pos n) ((pos m *ℤ b) +ℤ (pos n *ℤ a))
mean_within g m n b a hb ha = let x = times-bounded g m b hb in let y = times-bounded g n a ha in (omega (arith, ints, x, y), omega (arith, ints, x, y))

natural : (z : ℤ) → pos 0 ≤ℤ z → (n : ℕ) × (z ≡ pos n)
natural (pos n) h = (n, refl)
natural (negsuc n) h = absurd (omega (arith, ints, h))

mean_of : (g : ℕ) (s p q b a : ℤ) → s ≡ p +ℤ q → pos 0 ≤ℤ p → pos 0 ≤ℤ q → Bounded g b → Bounded g a → WithinScaled g s ((p *ℤ b) +ℤ (q *ℤ a))
mean_of g s p q b a e hp hq hb ha =
    let (m, em) = natural p hp in
    let (n, en) = natural q hq in
    rw (e, em, en) (mean_within g m n b a hb ha)

-- the cut lies on the near plane
on_plane : (n a b : ℤ) → ((a -ℤ n) *ℤ b) +ℤ ((n -ℤ b) *ℤ a) ≡ n *ℤ (a -ℤ b)
on_plane = over3 (λ n a b. ((a -ℤ n) *ℤ b) +ℤ ((n -ℤ b) *ℤ a) ≡ n *ℤ (a -ℤ b)) (λ n n' a a' b b'. simp (diff-add, diff-sub, diff-mul) (diff-same _ _ _ _ (omega arith)))

inside_is : (v : ClipVertex) (near : ℕ) → is_in_front v near ≡ true → pos near ≤ℤ v.w
inside_is v near e = grind (arith, ints)

outside_is : (v : ClipVertex) (near : ℕ) → is_in_front v near ≡ false → v.w <ℤ pos near
outside_is v near e = grind (arith, ints)

pub whole_reaches : (v : ClipVertex) (near : ℕ) → IsGuarded near v → is_in_front v near ≡ true → IsInReach near (whole v)
whole_reaches v near g e =
    let i = inside_is v near e in
    record {
      scale_least = omega (arith, ints);
      scale_most = omega (arith, ints);
      w_least = omega (arith, ints, i);
      w_most = omega (arith, ints, g.w_within);
      x_within = (omega (arith, ints, g.x_within), omega (arith, ints, g.x_within));
      y_within = (omega (arith, ints, g.y_within), omega (arith, ints, g.y_within));
    }

pub cut_reaches : (a b : ClipVertex) (near : ℕ) → near ≤ 1024 → IsGuarded near a → IsGuarded near b → is_in_front a near ≡ true → is_in_front b near ≡ false → IsInReach near (cut_point a b near)
cut_reaches a b near le ga gb ea eb =
    let i = inside_is a near ea in
    let o = outside_is b near eb in
    let s : a.w -ℤ b.w ≡ (a.w -ℤ pos near) +ℤ (pos near -ℤ b.w) = omega (arith, ints) in
    let hp : pos 0 ≤ℤ (a.w -ℤ pos near) = omega (arith, ints, i) in
    let hq : pos 0 ≤ℤ (pos near -ℤ b.w) = omega (arith, ints, o) in
    let mean = λ (y x : ℤ) (hy : Bounded (16384 * near) y) (hx : Bounded (16384 * near) x). mean_of (16384 * near) _ _ _ y x s hp hq hy hx in
    let w = on_plane (pos near) a.w b.w in
    let wm = mean b.w a.w gb.w_within ga.w_within in
    record {
      scale_least = omega (arith, ints, i, o);
      scale_most = omega (arith, ints, ga.w_within, gb.w_within);
      w_least = omega (arith, ints, w);
      w_most = wm.1;
      x_within = mean b.x a.x gb.x_within ga.x_within;
      y_within = mean b.y a.y gb.y_within ga.y_within;
    }

-- `All` of three and of four
three : (P : HomPoint → Type 0) (p q r : HomPoint) → P p → P q → P r → All P (p ∷ q ∷ r ∷ [])
three P p q r a b c = All-cons P p (q ∷ r ∷ []) a (All-cons P q (r ∷ []) b (All-cons P r [] c (All-nil P)))

four : (P : HomPoint → Type 0) (p q r s : HomPoint) → P p → P q → P r → P s → All P (p ∷ q ∷ r ∷ s ∷ [])
four P p q r s a b c d = All-cons P p (q ∷ r ∷ s ∷ []) a (three P q r s b c d)

parts_reach : (b0 b1 b2 : Bool) (v0 v1 v2 : ClipVertex) (near : ℕ) → near ≤ 1024 → IsGuarded near v0 → IsGuarded near v1 → IsGuarded near v2 →
    is_in_front v0 near ≡ b0 → is_in_front v1 near ≡ b1 → is_in_front v2 near ≡ b2 → All (IsInReach near) (part_by b0 b1 b2 v0 v1 v2 near)
parts_reach true true true v0 v1 v2 n le g0 g1 g2 e0 e1 e2 = three (IsInReach n) _ _ _ (whole_reaches v0 n g0 e0) (whole_reaches v1 n g1 e1) (whole_reaches v2 n g2 e2)
parts_reach true true false v0 v1 v2 n le g0 g1 g2 e0 e1 e2 = four (IsInReach n) _ _ _ _ (whole_reaches v0 n g0 e0) (whole_reaches v1 n g1 e1) (cut_reaches v1 v2 n le g1 g2 e1 e2) (cut_reaches v0 v2 n le g0 g2 e0 e2)
parts_reach true false true v0 v1 v2 n le g0 g1 g2 e0 e1 e2 = four (IsInReach n) _ _ _ _ (whole_reaches v0 n g0 e0) (cut_reaches v0 v1 n le g0 g1 e0 e1) (cut_reaches v2 v1 n le g2 g1 e2 e1) (whole_reaches v2 n g2 e2)
parts_reach false true true v0 v1 v2 n le g0 g1 g2 e0 e1 e2 = four (IsInReach n) _ _ _ _ (cut_reaches v1 v0 n le g1 g0 e1 e0) (whole_reaches v1 n g1 e1) (whole_reaches v2 n g2 e2) (cut_reaches v2 v0 n le g2 g0 e2 e0)
parts_reach true false false v0 v1 v2 n le g0 g1 g2 e0 e1 e2 = three (IsInReach n) _ _ _ (whole_reaches v0 n g0 e0) (cut_reaches v0 v1 n le g0 g1 e0 e1) (cut_reaches v0 v2 n le g0 g2 e0 e2)
parts_reach false true false v0 v1 v2 n le g0 g1 g2 e0 e1 e2 = three (IsInReach n) _ _ _ (cut_reaches v1 v0 n le g1 g0 e1 e0) (whole_reaches v1 n g1 e1) (cut_reaches v1 v2 n le g1 g2 e1 e2)
parts_reach false false true v0 v1 v2 n le g0 g1 g2 e0 e1 e2 = three (IsInReach n) _ _ _ (cut_reaches v2 v0 n le g2 g0 e2 e0) (cut_reaches v2 v1 n le g2 g1 e2 e1) (whole_reaches v2 n g2 e2)
parts_reach false false false v0 v1 v2 n le g0 g1 g2 e0 e1 e2 = All-nil _

pub near_part_reaches : (v0 v1 v2 : ClipVertex) (near : ℕ) → near ≤ 1024 → IsGuarded near v0 → IsGuarded near v1 → IsGuarded near v2 → All (IsInReach near) (near_part v0 v1 v2 near)
unfolding near_part
near_part_reaches v0 v1 v2 near le g0 g1 g2 = parts_reach (is_in_front v0 near) (is_in_front v1 near) (is_in_front v2 near) v0 v1 v2 near le g0 g1 g2 refl refl refl

parts_empty : (b0 b1 b2 : Bool) (v0 v1 v2 : ClipVertex) (near : ℕ) → part_by b0 b1 b2 v0 v1 v2 near ≡ [] → (b0 ≡ false) × (b1 ≡ false) × (b2 ≡ false)
parts_empty true true true v0 v1 v2 n e = absurd (cc)
parts_empty true true false v0 v1 v2 n e = absurd (cc)
parts_empty true false true v0 v1 v2 n e = absurd (cc)
parts_empty false true true v0 v1 v2 n e = absurd (cc)
parts_empty true false false v0 v1 v2 n e = absurd (cc)
parts_empty false true false v0 v1 v2 n e = absurd (cc)
parts_empty false false true v0 v1 v2 n e = absurd (cc)
parts_empty false false false v0 v1 v2 n e = (refl, refl, refl)

-- nothing is left exactly where all of it is outside
pub near_part-empty : (v0 v1 v2 : ClipVertex) (near : ℕ) → near_part v0 v1 v2 near ≡ [] → (is_in_front v0 near ≡ false) × (is_in_front v1 near ≡ false) × (is_in_front v2 near ≡ false)
unfolding near_part
near_part-empty v0 v1 v2 near e = parts_empty _ _ _ v0 v1 v2 near e

pub near_part-outside : (v0 v1 v2 : ClipVertex) (near : ℕ) → is_in_front v0 near ≡ false → is_in_front v1 near ≡ false → is_in_front v2 near ≡ false → near_part v0 v1 v2 near ≡ []
unfolding near_part
near_part-outside v0 v1 v2 near e0 e1 e2 = rw (e0, e1, e2) refl

-- what holds of the three corners holds of each vertex
pub all_corners : (P : ClipVertex → Type 0) (vs : List ClipVertex) → length vs ≡ 3 → P (corner vs 0) → P (corner vs 1) → P (corner vs 2) → All P vs
all_corners P [] e a b c = absurd (omega arith)
all_corners P (u ∷ []) e a b c = absurd (omega arith)
all_corners P (u ∷ v ∷ []) e a b c = absurd (omega arith)
all_corners P (u ∷ v ∷ w ∷ []) e a b c = All-cons P u (v ∷ w ∷ []) a (All-cons P v (w ∷ []) b (All-cons P w [] c (All-nil P)))
all_corners P (u ∷ v ∷ w ∷ x ∷ xs) e a b c = absurd (omega arith)

-- What is nearer by a piece's nearness is nearer by the distances of triangles, and so is each weighted point.
use Rattle.std.proofs.Common.{◌≡◌, ℕ, ℤ, pos, suc, zero, ◌+◌, ◌*◌, ◌<◌, ◌≤◌, ◌+ℤ◌, ◌*ℤ◌, ◌≤ℤ◌, ◌<ℤ◌, List, [], ◌∷◌, arith, refl, ap, sym, ◌∙◌, subst}
use Rattle.std.specs.List.{All}
use Rattle.std.proofs.lemmas.Int.{ints, by_lt_z}
use Rattle.std.proofs.lemmas.List.Elements.{All-head, All-tail}
use Rattle.cull_base.proofs.Ring.{diff-add, diff-mul, diff-same, over3}
use Rattle.depth_plane.proofs.Products.{le_times, mul-add, mul_comm, times_le, times_one}
use Rattle.exact_clip.specs.Clip.{Clip}
use Rattle.box_rays.specs.Objects.{weighted}
use Rattle.maskcull_c.specs.Seen.{count_of}

-- products in another order
pub times_times : (a b c : ℤ) → (a *ℤ b) *ℤ c ≡ a *ℤ (b *ℤ c)
times_times = over3 (λ a b c. (a *ℤ b) *ℤ c ≡ a *ℤ (b *ℤ c)) (λ a a' b b' c c'. simp diff-mul (diff-same _ _ _ _ (omega arith)))

pub times_swap : (a b c : ℤ) → a *ℤ (b *ℤ c) ≡ b *ℤ (a *ℤ c)
times_swap a b c = sym (times_times a b c) ∙ ap (λ t. t *ℤ c) (mul_comm a b) ∙ times_times b a c

add_times : (a b c : ℤ) → (a +ℤ b) *ℤ c ≡ (a *ℤ c) +ℤ (b *ℤ c)
add_times = over3 (λ a b c. (a +ℤ b) *ℤ c ≡ (a *ℤ c) +ℤ (b *ℤ c)) (λ a a' b b' c c'. simp (diff-add, diff-mul) (diff-same _ _ _ _ (omega arith)))

pos_times : (a b : ℕ) → pos (a * b) ≡ pos a *ℤ pos b
pos_times a b = omega (arith, ints)

-- of two products with the same number, by some more than none the greater has the greater factor
less_from_times : (a u v x : ℤ) → pos 0 ≤ℤ a → pos 0 <ℤ x → ((a *ℤ u) +ℤ x) ≤ℤ (a *ℤ v) → u <ℤ v
less_from_times a u v x low more le =
    by_lt_z u v
    (λ l. l)
    (λ h. let p = times_le a v u low h in absurd (omega (arith, ints, p, le, more)))

-- n is more than q a: over what n x is at most, q x is less
below_by_area : (q : ℕ) (a n x v : ℤ) → pos 0 <ℤ a → pos 0 <ℤ x → (pos q *ℤ a) <ℤ n → (n *ℤ x) ≤ℤ (a *ℤ v) → (pos q *ℤ x) <ℤ v
below_by_area q a n x v area some above le =
    let up = le_times ((pos q *ℤ a) +ℤ pos 1) n x (omega (arith, ints, some)) (omega (arith, ints, above)) in
    let parted = add_times (pos q *ℤ a) (pos 1) x in
    let one : pos 1 *ℤ x ≡ x = mul_comm (pos 1) x ∙ times_one x in
    let turned : (pos q *ℤ a) *ℤ x ≡ a *ℤ (pos q *ℤ x) = times_times (pos q) a x ∙ times_swap (pos q) a x in
    less_from_times a (pos q *ℤ x) v x (omega (arith, ints, area)) some (omega (arith, ints, up, parted, one, turned, le))

-- q x is less than v, of which k times is at most q y: k x is less than y
below_by_share : (q k : ℕ) (x v y : ℤ) → 0 < k → (pos q *ℤ x) <ℤ v → (pos k *ℤ v) ≤ℤ (pos q *ℤ y) → (pos k *ℤ x) <ℤ y
below_by_share q k x v y some below le =
    let up = times_le (pos k) ((pos q *ℤ x) +ℤ pos 1) v (omega (arith, ints)) (omega (arith, ints, below)) in
    let parted = mul-add (pos k) (pos q *ℤ x) (pos 1) in
    let one = times_one (pos k) in
    let turned = times_swap (pos k) (pos q) x in
    less_from_times (pos q) (pos k *ℤ x) y (pos k) (omega (arith, ints)) (omega (arith, ints, some)) (omega (arith, ints, up, parted, one, turned, le))

-- A piece has the nearness n over a there, which is above q; n x is at most what the triangle says; q is at least the
-- object's nearness, with its share.
pub nearer_than_point : (q top k m : ℕ) (a n x near s w : ℤ) → 0 < k → pos 0 <ℤ a → pos 0 <ℤ x → pos 0 ≤ℤ s
    → (pos q *ℤ a) <ℤ n → (n *ℤ x) ≤ℤ ((a *ℤ pos top) *ℤ (near *ℤ s)) → (pos (top * k) *ℤ near) ≤ℤ (pos (q * m) *ℤ w)
    → (pos k *ℤ x) <ℤ (pos m *ℤ (w *ℤ s))
nearer_than_point q top k m a n x near s w some area front whole above no_farther nearest =
    let v = pos top *ℤ (near *ℤ s) in
    let told : (n *ℤ x) ≤ℤ (a *ℤ v) = subst (λ t. (n *ℤ x) ≤ℤ t) (times_times a (pos top) (near *ℤ s)) no_farther in
    let up = le_times (pos (top * k) *ℤ near) (pos (q * m) *ℤ w) s whole nearest in
    let left : (pos (top * k) *ℤ near) *ℤ s ≡ pos k *ℤ v
    = times_times (pos (top * k)) near s ∙ ap (λ t. t *ℤ (near *ℤ s)) (pos_times top k ∙ mul_comm (pos top) (pos k)) ∙ times_times (pos k) (pos top) (near *ℤ s) in
    let right : (pos (q * m) *ℤ w) *ℤ s ≡ pos q *ℤ (pos m *ℤ (w *ℤ s))
    = times_times (pos (q * m)) w s ∙ ap (λ t. t *ℤ (w *ℤ s)) (pos_times q m) ∙ times_times (pos q) (pos m) (w *ℤ s) in
    below_by_share q k x v (pos m *ℤ (w *ℤ s)) some (below_by_area q a n x v area front above told) (omega (arith, ints, up, left, right))

-- Points that are each farther by a share: so is the sum of them, each times its weight.
module _ (k m : ℕ) (x s : ℤ) where
  abbrev IsFarther : Clip → Type 0
  IsFarther p = (pos k *ℤ x) <ℤ (pos m *ℤ (p.w *ℤ s))

  nothing : (c : ℤ) → ((pos 0 *ℤ c) +ℤ pos 0) ≤ℤ (pos m *ℤ (pos 0 *ℤ s))
  nothing c =
      let a : pos 0 *ℤ c ≡ pos 0 = omega (arith, ints) in
      let b : pos 0 *ℤ s ≡ pos 0 = omega (arith, ints) in
      let e : pos m *ℤ (pos 0 *ℤ s) ≡ pos 0 = ap (λ t. pos m *ℤ t) b ∙ omega (arith, ints) in
      omega (arith, ints, a, e)

  one_more : (n c : ℕ) (p : Clip) (w : ℤ) → IsFarther p → ((pos c *ℤ (pos k *ℤ x)) +ℤ pos c) ≤ℤ (pos m *ℤ (w *ℤ s))
      → ((pos (n + c) *ℤ (pos k *ℤ x)) +ℤ pos (n + c)) ≤ℤ (pos m *ℤ (((pos n *ℤ p.w) +ℤ w) *ℤ s))
  one_more n c p w farther rest =
      let up = times_le (pos n) ((pos k *ℤ x) +ℤ pos 1) (pos m *ℤ (p.w *ℤ s)) (omega (arith, ints)) (omega (arith, ints, farther)) in
      let parted = mul-add (pos n) (pos k *ℤ x) (pos 1) in
      let one = times_one (pos n) in
      let turned : pos n *ℤ (pos m *ℤ (p.w *ℤ s)) ≡ pos m *ℤ ((pos n *ℤ p.w) *ℤ s)
      = times_swap (pos n) (pos m) (p.w *ℤ s) ∙ ap (λ t. pos m *ℤ t) (sym (times_times (pos n) p.w s)) in
      let both = add_times (pos n) (pos c) (pos k *ℤ x) in
      let sum = ap (λ t. pos m *ℤ t) (add_times (pos n *ℤ p.w) w s) ∙ mul-add (pos m) ((pos n *ℤ p.w) *ℤ s) (w *ℤ s) in
      omega (arith, ints, up, parted, one, turned, both, sum, rest)

  farther_sum : (weights : List ℕ) (points : List Clip) → All IsFarther points
      → ((pos (count_of weights points) *ℤ (pos k *ℤ x)) +ℤ pos (count_of weights points)) ≤ℤ (pos m *ℤ ((weighted weights points).w *ℤ s))
  farther_sum [] points all = nothing (pos k *ℤ x)
  farther_sum (n ∷ ns) [] all = nothing (pos k *ℤ x)
  farther_sum (n ∷ ns) (p ∷ ps) all =
      one_more n (count_of ns ps) p (weighted ns ps).w (All-head IsFarther p ps all) (farther_sum ns ps (All-tail IsFarther p ps all))

-- a sum of no points
none_weighted : (weights : List ℕ) (points : List Clip) → count_of weights points ≡ 0 → (weighted weights points).w ≡ pos 0
none_weighted [] points e = refl
none_weighted (n ∷ ns) [] e = refl
none_weighted (n ∷ ns) (p ∷ ps) e =
    let first : n ≡ 0 = omega (arith, e) in
    let rest = none_weighted ns ps (omega (arith, e)) in
    let gone : pos n *ℤ p.w ≡ pos 0 = ap (λ t. pos t *ℤ p.w) first ∙ omega (arith, ints) in
    omega (arith, ints, gone, rest)

pub nearer_than_sum : (k m : ℕ) (x s : ℤ) (weights : List ℕ) (points : List Clip) → m ≤ k → pos 0 ≤ℤ x
    → All (λ p. (pos k *ℤ x) <ℤ (pos m *ℤ (p.w *ℤ s))) points → pos 0 <ℤ (weighted weights points).w
    → (pos (count_of weights points) *ℤ x) <ℤ ((weighted weights points).w *ℤ s)
nearer_than_sum k m x s weights points more whole all front =
    let c = count_of weights points in
    let sum = farther_sum k m x s weights points all in
    let some : 0 < c = positive in
    let up = times_le (pos c) (pos m *ℤ x) (pos k *ℤ x) (omega (arith, ints)) (le_times (pos m) (pos k) x whole (omega (arith, ints, more))) in
    let turned = times_swap (pos c) (pos m) x in
    less_from_times (pos m) (pos c *ℤ x) ((weighted weights points).w *ℤ s) (pos c) (omega (arith, ints)) (omega (arith, ints, some)) (omega (arith, ints, sum, up, turned))
  where
    by : (c : ℕ) → count_of weights points ≡ c → 0 < c
    by zero e = absurd (let none = none_weighted weights points e in omega (arith, ints, none, front))
    by (suc c) e = omega arith

    positive : 0 < count_of weights points
    positive = by (count_of weights points) refl

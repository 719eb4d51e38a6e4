-- What sums and products of numbers that are known to some steps of a scale may be off by.
use Rattle.std.proofs.Common.{◌≡◌, ℕ, ℤ, pos, negsuc, neg_ℤ, nat_abs, ◌≤◌, ◌+◌, ◌*◌, ◌+ℤ◌, ◌-ℤ◌, ◌*ℤ◌, arith}
use Rattle.std.proofs.lemmas.Int.{ints}
use Rattle.std.proofs.Math.Nat.{mul-le-mul}
use Rattle.cull_base.specs.Bounds.{Bounded}
use Rattle.cull_base.proofs.Bounds.{bounded-mul}
use Rattle.cull_base.proofs.Ring.{diff, diff-add, diff-sub, diff-mul, diff-neg, diff-same, over2, over3, over4}
use Rattle.clip_lines.specs.Lines.{IsWithin}

-- by its own size
pub own-bounded : (p : ℤ) → Bounded (nat_abs p) p
own-bounded (pos n) = (omega (arith, ints), omega (arith, ints))
own-bounded (negsuc n) = (omega (arith, ints), omega (arith, ints))

step-bounded : (s : ℕ) → Bounded s (pos s)
step-bounded s = (omega (arith, ints), omega (arith, ints))

-- x y - p q s t = (x - p s) (y - q t) + p s (y - q t) + q t (x - p s)
apart : (p q x y s t : ℤ) → (x *ℤ y) -ℤ ((p *ℤ q) *ℤ (s *ℤ t))
    ≡ (((x -ℤ (p *ℤ s)) *ℤ (y -ℤ (q *ℤ t))) +ℤ (p *ℤ (s *ℤ (y -ℤ (q *ℤ t))))) +ℤ (q *ℤ (t *ℤ (x -ℤ (p *ℤ s))))
apart p q x y s t = over4 (λ p q x y. (x *ℤ y) -ℤ ((p *ℤ q) *ℤ (s *ℤ t))
    ≡ (((x -ℤ (p *ℤ s)) *ℤ (y -ℤ (q *ℤ t))) +ℤ (p *ℤ (s *ℤ (y -ℤ (q *ℤ t))))) +ℤ (q *ℤ (t *ℤ (x -ℤ (p *ℤ s)))))
    (λ p p' q q' x x' y y'. over2 (λ s t. (diff x x' *ℤ diff y y') -ℤ ((diff p p' *ℤ diff q q') *ℤ (s *ℤ t))
    ≡ (((diff x x' -ℤ (diff p p' *ℤ s)) *ℤ (diff y y' -ℤ (diff q q' *ℤ t))) +ℤ (diff p p' *ℤ (s *ℤ (diff y y' -ℤ (diff q q' *ℤ t))))) +ℤ (diff q q' *ℤ (t *ℤ (diff x x' -ℤ (diff p p' *ℤ s)))))
    (λ s s' t t'. simp (diff-add, diff-sub, diff-mul) (diff-same _ _ _ _ (omega arith))) s t) p q x y

-- each factor by its steps times the other, and the steps by each other
pub product-within : (s t m n : ℕ) (p q x y : ℤ) → IsWithin s m p x → IsWithin t n q y
    → IsWithin (s * t) ((nat_abs p * n + nat_abs q * m) + m * n) (p *ℤ q) (x *ℤ y)
product-within s t m n p q x y hx hy =
    let u = bounded-mul (m * s) (n * t) (x -ℤ (p *ℤ pos s)) (y -ℤ (q *ℤ pos t)) hx hy in
    let v = bounded-mul (nat_abs p) (s * (n * t)) p (pos s *ℤ (y -ℤ (q *ℤ pos t))) (own-bounded p) (bounded-mul s (n * t) (pos s) (y -ℤ (q *ℤ pos t)) (step-bounded s) hy) in
    let w = bounded-mul (nat_abs q) (t * (m * s)) q (pos t *ℤ (x -ℤ (p *ℤ pos s))) (own-bounded q) (bounded-mul t (m * s) (pos t) (x -ℤ (p *ℤ pos s)) (step-bounded t) hx) in
    let e = apart p q x y (pos s) (pos t) in
    sum (nat_abs p * (s * (n * t))) (nat_abs q * (t * (m * s))) ((m * s) * (n * t)) (((nat_abs p * n + nat_abs q * m) + m * n) * (s * t)) ((x *ℤ y) -ℤ ((p *ℤ q) *ℤ pos (s * t)))
    ((x -ℤ (p *ℤ pos s)) *ℤ (y -ℤ (q *ℤ pos t))) (p *ℤ (pos s *ℤ (y -ℤ (q *ℤ pos t)))) (q *ℤ (pos t *ℤ (x -ℤ (p *ℤ pos s)))) (omega arith) e u v w
  where
    sum : (a b c d : ℕ) (f u v w : ℤ) → d ≡ (a + b) + c → f ≡ (u +ℤ v) +ℤ w → Bounded c u → Bounded a v → Bounded b w → Bounded d f
    sum a b c d f u v w ed e hu hv hw = (omega (arith, ints, ed, e, hu, hv, hw), omega (arith, ints, ed, e, hu, hv, hw))

pub neg-mul : (a b : ℤ) → neg_ℤ a *ℤ b ≡ neg_ℤ (a *ℤ b)
neg-mul = over2 (λ a b. neg_ℤ a *ℤ b ≡ neg_ℤ (a *ℤ b)) (λ a a' b b'. simp (diff-neg, diff-mul) (diff-same _ _ _ _ (omega arith)))

sub-mul : (a b s : ℤ) → (a -ℤ b) *ℤ s ≡ (a *ℤ s) -ℤ (b *ℤ s)
sub-mul = over3 (λ a b s. (a -ℤ b) *ℤ s ≡ (a *ℤ s) -ℤ (b *ℤ s)) (λ a a' b b' s s'. simp (diff-sub, diff-mul) (diff-same _ _ _ _ (omega arith)))

sum-mul : (a b c s : ℤ) → ((a +ℤ b) +ℤ c) *ℤ s ≡ ((a *ℤ s) +ℤ (b *ℤ s)) +ℤ (c *ℤ s)
sum-mul = over4 (λ a b c s. ((a +ℤ b) +ℤ c) *ℤ s ≡ ((a *ℤ s) +ℤ (b *ℤ s)) +ℤ (c *ℤ s)) (λ a a' b b' c c' s s'. simp (diff-add, diff-mul) (diff-same _ _ _ _ (omega arith)))

pub neg-within : (s n : ℕ) (p x : ℤ) → IsWithin s n p x → IsWithin s n (neg_ℤ p) (neg_ℤ x)
neg-within s n p x h = let e = neg-mul p (pos s) in (omega (arith, ints, e, h), omega (arith, ints, e, h))

-- a difference, within no less than both together
pub difference-within : (s m n k : ℕ) (p q x y : ℤ) → m + n ≤ k → IsWithin s m p x → IsWithin s n q y → IsWithin s k (p -ℤ q) (x -ℤ y)
difference-within s m n k p q x y le hx hy =
    let e = sub-mul p q (pos s) in let same : s ≤ s = omega arith in let l = mul-le-mul le same in
    (omega (arith, ints, e, hx, hy, l), omega (arith, ints, e, hx, hy, l))

pub sum-within : (s k m n o : ℕ) (p q r x y z : ℤ) → o ≡ (k + m) + n → IsWithin s k p x → IsWithin s m q y → IsWithin s n r z
    → IsWithin s o ((p +ℤ q) +ℤ r) ((x +ℤ y) +ℤ z)
sum-within s k m n o p q r x y z eo hx hy hz =
    let e = sum-mul p q r (pos s) in rw eo (omega (arith, ints, e, hx, hy, hz), omega (arith, ints, e, hx, hy, hz))

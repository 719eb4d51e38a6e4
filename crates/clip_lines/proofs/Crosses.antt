-- Cross products of corners that are known to one step.
use Rattle.std.proofs.Common.{◌≡◌, ℕ, ℤ, neg_ℤ, nat_abs, ◌≤◌, ◌+◌, ◌*◌, ◌-ℤ◌, ◌*ℤ◌, arith}
use Rattle.cull_base.proofs.Ring.{diff-add, diff-mul, diff-neg, diff-same, over4}
use Rattle.exact_clip.specs.Clip.{Clip}
use Rattle.clip_lines.specs.Lines.{cross, IsWithin, StandsFor}
use Rattle.clip_lines.specs.Parts.{norm_of}
use Rattle.clip_lines.proofs.Errors.{product-within, difference-within, neg-within}

-- one part: a d - b c
part-within : (s k : ℕ) (p q r t a b c d : ℤ) → ((nat_abs p + nat_abs q) + (nat_abs r + nat_abs t)) + 2 ≤ k
    → IsWithin s 1 p a → IsWithin s 1 q b → IsWithin s 1 r c → IsWithin s 1 t d
    → IsWithin (s * s) k ((p *ℤ t) -ℤ (q *ℤ r)) ((a *ℤ d) -ℤ (b *ℤ c))
part-within s k p q r t a b c d le ha hb hc hd =
    difference-within (s * s) ((nat_abs p * 1 + nat_abs t * 1) + 1 * 1) ((nat_abs q * 1 + nat_abs r * 1) + 1 * 1) k (p *ℤ t) (q *ℤ r) (a *ℤ d) (b *ℤ c)
    (omega (arith, le)) (product-within s s 1 1 p t a d ha hd) (product-within s s 1 1 q r b c hb hc)

pub cross-stands : (s k : ℕ) (p q a b : Clip) → k ≡ (norm_of p + norm_of q) + 2 → StandsFor s 1 p a → StandsFor s 1 q b → StandsFor (s * s) k (cross p q) (cross a b)
cross-stands s k p q a b e h i = record {
  x = part-within s k p.y p.w q.y q.w a.y a.w b.y b.w (omega (arith, e)) h.y h.w i.y i.w;
  y = part-within s k p.w p.x q.w q.x a.w a.x b.w b.x (omega (arith, e)) h.w h.x i.w i.x;
  w = part-within s k p.x p.y q.x q.y a.x a.y b.x b.y (omega (arith, e)) h.x h.y i.x i.y;
}

-- the other way round
part-turned : (a b c d : ℤ) → neg_ℤ ((a *ℤ d) -ℤ (b *ℤ c)) ≡ (c *ℤ b) -ℤ (d *ℤ a)
part-turned = over4 (λ a b c d. neg_ℤ ((a *ℤ d) -ℤ (b *ℤ c)) ≡ (c *ℤ b) -ℤ (d *ℤ a))
    (λ a a' b b' c c' d d'. simp (diff-add, diff-mul, diff-neg) (diff-same _ _ _ _ (omega arith)))

part-opposite : (s k : ℕ) (p a b c d : ℤ) → IsWithin s k p ((a *ℤ d) -ℤ (b *ℤ c)) → IsWithin s k (neg_ℤ p) ((c *ℤ b) -ℤ (d *ℤ a))
part-opposite s k p a b c d h = let e = part-turned a b c d in rw (← e) (neg-within s k p ((a *ℤ d) -ℤ (b *ℤ c)) h)

pub opposite-stands : (s k : ℕ) (x y w : ℤ) (l : Clip) (a b : Clip) → x ≡ neg_ℤ l.x → y ≡ neg_ℤ l.y → w ≡ neg_ℤ l.w → StandsFor s k l (cross a b) → StandsFor s k (record { x = x; y = y; w = w }) (cross b a)
opposite-stands s k x y w l a b ex ey ew h = rw (ex, ey, ew) (record {
  x = part-opposite s k l.x a.y a.w b.y b.w h.x;
  y = part-opposite s k l.y a.w a.x b.w b.x h.y;
  w = part-opposite s k l.w a.x a.y b.x b.y h.w;
})

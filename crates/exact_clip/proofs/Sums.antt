-- Four terms of whole units, each rounded down, hold the exact sum.
use Rattle.std.proofs.Common.{◌≡◌, ℕ, ℤ, pos, ◌*◌, ◌^◌, ◌+ℤ◌, ◌*ℤ◌, ◌≤ℤ◌, ◌<ℤ◌, ◌∙◌, ap, List, arith, refl}
use Rattle.std.proofs.lemmas.Int.{ints}
use Rattle.cull_base.specs.Bounds.{Bounded}
use Rattle.float_bits.specs.Floats.{whole_of}
use Rattle.exact_clip.specs.Clip.{clip_of, row_times, number_at}
use Rattle.exact_clip.specs.Held.{IsHeld, Holds}
use Rattle.exact_clip.specs.Lost.{one}
use Rattle.exact_clip.specs.Terms.{IsCut, AreCuts, IsSum, column_times}
use Rattle.exact_clip.specs.declared.held.Held.{Held}
use Rattle.exact_clip.proofs.Products.{pos-mul, distributed}

-- the number 1
pub whole_of-one : whole_of one ≡ pos (2 ^ 149)
unfolding whole_of
whole_of-one = refl

four_times : (a b c d u : ℤ) → (((a +ℤ b) +ℤ c) +ℤ d) *ℤ u ≡ (((a *ℤ u) +ℤ (b *ℤ u)) +ℤ (c *ℤ u)) +ℤ (d *ℤ u)
four_times a b c d u =
    distributed ((a +ℤ b) +ℤ c) d u ∙ ap (λ (z : ℤ). z +ℤ (d *ℤ u)) (distributed (a +ℤ b) c u ∙ ap (λ (z : ℤ). z +ℤ (c *ℤ u)) (distributed a b u))

bounded_sum : (a b c d s : ℤ) → s ≡ ((a +ℤ b) +ℤ c) +ℤ d → Bounded (2 ^ 60) a → Bounded (2 ^ 60) b → Bounded (2 ^ 60) c → Bounded (2 ^ 60) d → Bounded (2 ^ 62) s
bounded_sum a b c d s e f g h i = (omega (arith, ints, e, f, g, h, i), omega (arith, ints, e, f, g, h, i))

from_below : (a b c d s x y z w : ℤ) → s ≡ ((a +ℤ b) +ℤ c) +ℤ d → a ≤ℤ x → b ≤ℤ y → c ≤ℤ z → d ≤ℤ w → s ≤ℤ (((x +ℤ y) +ℤ z) +ℤ w)
from_below a b c d s x y z w e f g h i = omega (arith, ints, e, f, g, h, i)

from_above : (a b c d s t x y z w : ℤ) (u : ℕ) → s ≡ ((a +ℤ b) +ℤ c) +ℤ d → t ≡ s +ℤ pos (4 * u)
    → x <ℤ (a +ℤ pos u) → y <ℤ (b +ℤ pos u) → z <ℤ (c +ℤ pos u) → w <ℤ (d +ℤ pos u) → (((x +ℤ y) +ℤ z) +ℤ w) <ℤ t
from_above a b c d s t x y z w u e j f g h i = omega (arith, ints, e, j, f, g, h, i)

held_is : (unit : ℕ) (a b c d s x y z w : ℤ) → IsCut unit a x → IsCut unit b y → IsCut unit c z → IsCut unit d w → s ≡ ((a +ℤ b) +ℤ c) +ℤ d
    → IsHeld unit s (((x +ℤ y) +ℤ z) +ℤ w)
held_is unit a b c d s x y z w p q r t e =
    let sums : s *ℤ pos unit ≡ (((a *ℤ pos unit) +ℤ (b *ℤ pos unit)) +ℤ (c *ℤ pos unit)) +ℤ (d *ℤ pos unit) = ap (λ (v : ℤ). v *ℤ pos unit) e ∙ four_times a b c d (pos unit) in
    let tops : (s +ℤ pos 4) *ℤ pos unit ≡ (s *ℤ pos unit) +ℤ pos (4 * unit) = distributed s (pos 4) (pos unit) ∙ ap (λ (v : ℤ). (s *ℤ pos unit) +ℤ v) (pos-mul 4 unit) in
    record {
      low = from_below _ _ _ _ _ x y z w sums p.floor.low q.floor.low r.floor.low t.floor.low;
      high = from_above _ _ _ _ _ _ x y z w unit sums tops p.floor.high q.floor.high r.floor.high t.floor.high;
      bounded = bounded_sum a b c d s e p.bounded q.bounded r.bounded t.bounded;
    }

-- a position's clip coordinates by what each of its coordinates adds
pub holds : (unit : ℕ) (matrix position : List ℕ) (a b c d s : Held)
    → AreCuts unit a (column_times matrix 0 (number_at position 0)) → AreCuts unit b (column_times matrix 1 (number_at position 1))
    → AreCuts unit c (column_times matrix 2 (number_at position 2)) → AreCuts unit d (column_times matrix 3 (pos (2 ^ 149)))
    → IsSum a b c d s → Holds unit s (clip_of matrix position)
unfolding row_times
holds unit matrix position a b c d s p q r t e =
    record {
      x = held_is unit a.x b.x c.x d.x s.x _ _ _ _ p.x q.x r.x t.x e.x;
      y = held_is unit a.y b.y c.y d.y s.y _ _ _ _ p.y q.y r.y t.y e.y;
      w = held_is unit a.w b.w c.w d.w s.w _ _ _ _ p.w q.w r.w t.w e.w;
    }

-- A line in fewer bits stands for the same exact line.
use Rattle.std.proofs.Common.{◌≡◌, ℕ, ℤ, pos, neg_ℤ, ◌≤◌, ◌+◌, ◌*◌, ◌^◌, ◌-ℤ◌, ◌*ℤ◌, Bool, true, false, arith}
use Rattle.std.proofs.lemmas.Int.{ints}
use Rattle.std.proofs.Math.Nat.{mul-le-mul_right}
use Rattle.cull_base.specs.Bounds.{Bounded}
use Rattle.cull_base.proofs.Bounds.{bounded-mul}
use Rattle.cull_base.proofs.Ring.{diff-mul, diff-neg, diff-same, over2, over3}
use Rattle.exact_clip.specs.Clip.{Clip}
use Rattle.clip_lines.specs.Lines.{IsWithin, StandsFor}
use Rattle.clip_lines.specs.Parts.{IsSumOf}
use Rattle.clip_lines.specs.declared.line.Line.{Line}
use Rattle.pixel_forms.specs.Narrow.{IsFloor}
use Rattle.pixel_forms.specs.Seen.{turned_line}
use Rattle.pixel_forms.proofs.Numbers.{sub-mul, pos-bounded, bounded-more}

mul-swap : (a b c : ℤ) → (a *ℤ b) *ℤ c ≡ a *ℤ (c *ℤ b)
mul-swap = over3 (λ a b c. (a *ℤ b) *ℤ c ≡ a *ℤ (c *ℤ b)) (λ a a' b b' c c'. simp diff-mul (diff-same _ _ _ _ (omega arith)))

rest-bounded : (p : ℕ) (v q : ℤ) → IsFloor v p q → Bounded p (v -ℤ (q *ℤ pos p))
rest-bounded p v q f = let l = f.low in let h = f.high in (omega (arith, ints, l, h), omega (arith, ints, l, h))

pub part-within : (s p off left : ℕ) (v q x : ℤ) → IsFloor v p q → off + p ≤ left * p → IsWithin s off v x → IsWithin (s * p) left q x
part-within s p off left v q x f le h =
    let k : (off + p) * s ≤ (left * p) * s = mul-le-mul_right s le in
    sum (off * s) (p * s) (left * (s * p)) x (v *ℤ pos s) ((v -ℤ (q *ℤ pos p)) *ℤ pos s) ((q *ℤ pos p) *ℤ pos s) (q *ℤ pos (s * p))
    (omega (arith, k)) (sub-mul v (q *ℤ pos p) (pos s)) (mul-swap q (pos p) (pos s)) h (bounded-mul p s (v -ℤ (q *ℤ pos p)) (pos s) (rest-bounded p v q f) (pos-bounded s))
  where
    sum : (i j n : ℕ) (x v r u w : ℤ) → i + j ≤ n → r ≡ v -ℤ u → u ≡ w → Bounded i (x -ℤ v) → Bounded j r → Bounded n (x -ℤ w)
    sum i j n x v r u w le er eu hx hr = (omega (arith, ints, le, er, eu, hx, hr), omega (arith, ints, le, er, eu, hx, hr))

pub narrow-stands : (s p off left : ℕ) (l q x : Clip) → IsFloor l.x p q.x → IsFloor l.y p q.y → IsFloor l.w p q.w → off + p ≤ left * p → StandsFor s off l x → StandsFor (s * p) left q x
narrow-stands s p off left l q x fx fy fw le h = record {
  x = part-within s p off left l.x q.x x.x fx le h.x;
  y = part-within s p off left l.y q.y x.y fy le h.y;
  w = part-within s p off left l.w q.w x.w fw le h.w;
}

neg-mul : (a b : ℤ) → neg_ℤ a *ℤ b ≡ neg_ℤ (a *ℤ b)
neg-mul = over2 (λ a b. neg_ℤ a *ℤ b ≡ neg_ℤ (a *ℤ b)) (λ a a' b b'. simp (diff-neg, diff-mul) (diff-same _ _ _ _ (omega arith)))

pub neg-within : (s n : ℕ) (p x : ℤ) → IsWithin s n p x → IsWithin s n (neg_ℤ p) (neg_ℤ x)
neg-within s n p x h = let e = neg-mul p (pos s) in (omega (arith, ints, e, h), omega (arith, ints, e, h))

pub turned-stands : (s n : ℕ) (t : Bool) (l x : Clip) → StandsFor s n l x → StandsFor s n (turned_line t l) (turned_line t x)
turned-stands s n false l x h = h
turned-stands s n true l x h = record {
  x = neg-within s n l.x x.x h.x;
  y = neg-within s n l.y x.y h.y;
  w = neg-within s n l.w x.w h.w;
}

-- a line through two corners is no larger than a sum of three
pub sum-of_three : (l : Line) → IsSumOf 1 l → IsSumOf 3 l
sum-of_three l h = let o = h.off in record {
  parts = record {
    x = bounded-more (1 * 2 ^ 61) (3 * 2 ^ 61) l.x (omega arith) h.parts.x;
    y = bounded-more (1 * 2 ^ 61) (3 * 2 ^ 61) l.y (omega arith) h.parts.y;
    w = bounded-more (1 * 2 ^ 61) (3 * 2 ^ 61) l.w (omega arith) h.parts.w;
  };
  off = omega (arith, o);
}

-- by the parts that the code took
pub turned-parts : (s n : ℕ) (t : Bool) (x y w : ℤ) (l exact : Clip) → t ≡ true → x ≡ neg_ℤ l.x → y ≡ neg_ℤ l.y → w ≡ neg_ℤ l.w → StandsFor s n l exact → StandsFor s n (record { x = x; y = y; w = w }) (turned_line t exact)
turned-parts s n t x y w l exact et ex ey ew h = rw (et, ex, ey, ew) (turned-stands s n true l exact h)

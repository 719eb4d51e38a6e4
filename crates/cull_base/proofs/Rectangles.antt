-- Rectangles that share a pixel.
use Rattle.std.proofs.Common.{◌≡◌, ℤ, ◌≤ℤ◌, ◌<ℤ◌, Bool, true, false, ◌&&◌, cond, IsTrue, arith, refl, int_lt}
use Rattle.std.specs.Prelude.{◌↔◌}
use Rattle.std.specs.Int.{int_min, int_max}
use Rattle.std.proofs.lemmas.Bool.{and_parts, both_ways}
use Rattle.std.proofs.lemmas.Int.{ints}
use Rattle.cull_base.specs.declared.rect.Rect.{Rect}
use Rattle.cull_base.specs.Rectangle.{HasPixel, meets, cut_of, common, no_pixels}

-- the greater of two firsts, in both spans where they overlap
first_in : (a0 a1 b0 b1 : ℤ) → IsTrue (int_lt (int_max a0 b0) (int_min a1 b1)) → (a0 ≤ℤ int_max a0 b0) × (int_max a0 b0 <ℤ a1) × (b0 ≤ℤ int_max a0 b0) × (int_max a0 b0 <ℤ b1)
first_in a0 a1 b0 b1 h = (grind (arith, ints), grind (arith, ints), grind (arith, ints), grind (arith, ints))

overlaps : (a0 a1 b0 b1 v : ℤ) → a0 ≤ℤ v → v <ℤ a1 → b0 ≤ℤ v → v <ℤ b1 → IsTrue (int_lt (int_max a0 b0) (int_min a1 b1))
overlaps a0 a1 b0 b1 v p q r s = grind (arith, ints)

and_tests : (p q : Bool) → IsTrue p → IsTrue q → IsTrue (p && q)
and_tests true true h k = refl
and_tests true false h k = absurd cc
and_tests false q h k = absurd cc

pub meets_pixel : (a b : Rect) → IsTrue (meets a b) ↔ ((x : ℤ) × (y : ℤ) × HasPixel a x y × HasPixel b x y)
meets_pixel a b = (
  (λ h. let t = and_parts _ _ h in let x = first_in a.x0 a.x1 b.x0 b.x1 t.0 in let y = first_in a.y0 a.y1 b.y0 b.y1 t.1 in
      (int_max a.x0 b.x0, int_max a.y0 b.y0, (x.0, x.1, y.0, y.1), (x.2, x.3, y.2, y.3))),
  (λ (x, y, p, q). and_tests _ _ (overlaps a.x0 a.x1 b.x0 b.x1 x p.0 p.1 q.0 q.1) (overlaps a.y0 a.y1 b.y0 b.y1 y p.2 p.3 q.2 q.3)),
)

-- the pixels of the common part
common_pixel : (a b : Rect) (x y : ℤ) → HasPixel (common a b) x y ↔ (HasPixel a x y × HasPixel b x y)
common_pixel a b x y = (
  (λ p. let (p0, p1, p2, p3) = p in (((low a.x0 b.x0 x p0).0, (high a.x1 b.x1 x p1).0, (low a.y0 b.y0 y p2).0, (high a.y1 b.y1 y p3).0), ((low a.x0 b.x0 x p0).1, (high a.x1 b.x1 x p1).1, (low a.y0 b.y0 y p2).1, (high a.y1 b.y1 y p3).1))),
  (λ (p, q). (up a.x0 b.x0 x p.0 q.0, down a.x1 b.x1 x p.1 q.1, up a.y0 b.y0 y p.2 q.2, down a.y1 b.y1 y p.3 q.3)),
)
  where
    low : (m n v : ℤ) → int_max m n ≤ℤ v → (m ≤ℤ v) × (n ≤ℤ v)
    low m n v h = (grind (arith, ints), grind (arith, ints))

    high : (m n v : ℤ) → v <ℤ int_min m n → (v <ℤ m) × (v <ℤ n)
    high m n v h = (grind (arith, ints), grind (arith, ints))

    up : (m n v : ℤ) → m ≤ℤ v → n ≤ℤ v → int_max m n ≤ℤ v
    up m n v h k = grind (arith, ints)

    down : (m n v : ℤ) → v <ℤ m → v <ℤ n → v <ℤ int_min m n
    down m n v h k = grind (arith, ints)

no_pixel_in : (x y : ℤ) → HasPixel no_pixels x y → ⊥
no_pixel_in x y p = omega (arith, ints, p.0, p.1)

pub cut_pixels : (a b : Rect) (x y : ℤ) → HasPixel (cut_of a b) x y ↔ (HasPixel a x y × HasPixel b x y)
cut_pixels a b x y = by (meets a b) refl
  where
    by : (m : Bool) → meets a b ≡ m → HasPixel (cond m (common a b) no_pixels) x y ↔ (HasPixel a x y × HasPixel b x y)
    by true e = common_pixel a b x y
    by false e = ((λ p. absurd (no_pixel_in x y p)), (λ (p, q). absurd (both_ways (meets a b) e ((meets_pixel a b).1 (x, y, p, q)))))

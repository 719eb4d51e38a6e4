-- A sample that a piece covers or touches lies in the piece's box.
use Rattle.std.proofs.Common.{◌≡◌, ℕ, ℤ, pos, negsuc, ◌+◌, ◌*◌, ◌≤◌, ◌+ℤ◌, ◌*ℤ◌, ◌≤ℤ◌, ◌<ℤ◌, arith, true, List, length, slice_index_or}
use Rattle.std.specs.Int.{int_min, int_max}
use Rattle.std.proofs.lemmas.Int.{ints, clamps}
use Rattle.cull_base.specs.Piece.{Piece, Point, IsPiece, vertex, edge_value, doubled_area, covers, touches, middle, box_of, least_of, greatest_of, first_pixel, end_pixel}
use Rattle.cull_base.proofs.Extents.{least_of_three, greatest_of_three}
use Rattle.cull_base.specs.Rectangle.{HasPixel}
use Rattle.depth_plane.proofs.Products.{mul_comm, le_from_times}
use Rattle.depth_plane.proofs.Mean.{weights_of, touches_covered, mean_above, mean_below, mean_x, mean_y, total_of}

-- a mean of three numbers lies between the least and the greatest
between : (a b c w x y d p : ℤ) → pos 0 <ℤ d → pos 0 ≤ℤ w → pos 0 ≤ℤ x → pos 0 ≤ℤ y → d ≡ (w +ℤ x) +ℤ y → d *ℤ p ≡ ((w *ℤ a) +ℤ (x *ℤ b)) +ℤ (y *ℤ c) →
    (int_min (int_min a b) c ≤ℤ p) × (p ≤ℤ int_max (int_max a b) c)
between a b c w x y d p h hw hx hy ed ep =
    let sum : p *ℤ d ≡ ((a *ℤ w) +ℤ (b *ℤ x)) +ℤ (c *ℤ y) = summed (mul_comm p d) (mul_comm w a) (mul_comm x b) (mul_comm y c) ep in (
      le_from_times (int_min (int_min a b) c) p d h (mean_above a b c w x y (int_min (int_min a b) c) d (p *ℤ d) hw hx hy (omega (arith, ints, clamps)) (omega (arith, ints, clamps)) (omega (arith, ints, clamps)) ed sum),
      le_from_times p (int_max (int_max a b) c) d h (mean_below a b c w x y (int_max (int_max a b) c) d (p *ℤ d) hw hx hy (omega (arith, ints, clamps)) (omega (arith, ints, clamps)) (omega (arith, ints, clamps)) ed sum),
    )
  where
    summed : p *ℤ d ≡ d *ℤ p → w *ℤ a ≡ a *ℤ w → x *ℤ b ≡ b *ℤ x → y *ℤ c ≡ c *ℤ y → d *ℤ p ≡ ((w *ℤ a) +ℤ (x *ℤ b)) +ℤ (y *ℤ c) → p *ℤ d ≡ ((a *ℤ w) +ℤ (b *ℤ x)) +ℤ (c *ℤ y)
    summed e f g i j = omega (arith, ints, e, f, g, i, j)

-- the pixel whose sample lies between two coordinates
pixel_between : (low high : ℤ) (px : ℕ) → low ≤ℤ pos (16 * px + 8) → pos (16 * px + 8) ≤ℤ high → (first_pixel low ≤ℤ pos px) × (pos px <ℤ end_pixel high)
pixel_between low high px l h = (from low l, before high h)
  where
    from : (low : ℤ) → low ≤ℤ pos (16 * px + 8) → first_pixel low ≤ℤ pos px
    from (pos a) l = let k : a ≤ 16 * px + 8 = omega (arith, ints, l) in omega (arith, ints)
    from (negsuc a) l = omega (arith, ints)

    before : (high : ℤ) → pos (16 * px + 8) ≤ℤ high → pos px <ℤ end_pixel high
    before (pos a) l = let k : 16 * px + 8 ≤ a = omega (arith, ints, l) in omega (arith, ints)
    before (negsuc a) l = absurd (omega (arith, ints, l))

-- the coordinates of three vertices around those of a point that the piece touches
pub touches-between : (t : Piece) (p : Point) → IsPiece t → touches t p ≡ true
    → ((least_of t.xs ≤ℤ p.x) × (p.x ≤ℤ greatest_of t.xs)) × ((least_of t.ys ≤ℤ p.y) × (p.y ≤ℤ greatest_of t.ys))
touches-between t p h e =
    let w = weights_of t p e in
    let a = vertex t 0 in let b = vertex t 1 in let c = vertex t 2 in
    let x = between a.x b.x c.x (edge_value b c p) (edge_value c a p) (edge_value a b p) (doubled_area t) p.x h.positive_area w.first w.second w.third (total_of t p) (mean_x a.x a.y b.x b.y c.x c.y p.x p.y) in
    let y = between a.y b.y c.y (edge_value b c p) (edge_value c a p) (edge_value a b p) (doubled_area t) p.y h.positive_area w.first w.second w.third (total_of t p) (mean_y a.x a.y b.x b.y c.x c.y p.x p.y) in
    (spanned t.xs p.x h.three_x x, spanned t.ys p.y h.three_y y)
  where
    spanned : (vs : List ℤ) (v : ℤ) → length vs ≡ 3 → let a = slice_index_or vs 0 (pos 0) in let b = slice_index_or vs 1 (pos 0) in let c = slice_index_or vs 2 (pos 0) in
        (int_min (int_min a b) c ≤ℤ v) × (v ≤ℤ int_max (int_max a b) c) → (least_of vs ≤ℤ v) × (v ≤ℤ greatest_of vs)
    spanned vs v three (low, high) = (rw (← least_of_three vs three) low, rw (← greatest_of_three vs three) high)

pub touches-in_box : (t : Piece) (px py : ℕ) → IsPiece t → touches t (middle px py) ≡ true → HasPixel (box_of t) (pos px) (pos py)
touches-in_box t px py h e =
    let (x, y) = touches-between t (middle px py) h e in
    let m = pixel_between (least_of t.xs) (greatest_of t.xs) px x.0 x.1 in
    let n = pixel_between (least_of t.ys) (greatest_of t.ys) py y.0 y.1 in
    (m.0, m.1, n.0, n.1)

pub covers-in_box : (t : Piece) (px py : ℕ) → IsPiece t → covers t (middle px py) ≡ true → HasPixel (box_of t) (pos px) (pos py)
covers-in_box t px py h e = touches-in_box t px py h (touches_covered t (middle px py) e)

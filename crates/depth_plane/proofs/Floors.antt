-- Whole quotients by a positive divisor.
use Rattle.std.proofs.Common.{◌≡◌, ◌^◌, FitsSigned, ℕ, ℤ, pos, negsuc, ◌<◌, ◌+ℤ◌, ◌*ℤ◌, ◌≤ℤ◌, ◌<ℤ◌, neg_ℤ, arith}
use Rattle.std.specs.Int.{int_max, w128}
use Rattle.std.proofs.lemmas.Int.{ints, clamps}
use Rattle.cull_base.proofs.Bounds.{bounded-mul}
use Rattle.cull_base.specs.Depth.{floor_of, ceiling_of}
use Rattle.depth_plane.proofs.Products.{neg-mul, le_from_times}

pub floor_of-le : (n d : ℤ) → pos 0 <ℤ d → (floor_of n d *ℤ d) ≤ℤ n
floor_of-le n (negsuc b) h = absurd (omega (arith, ints, h))
floor_of-le (pos a) (pos b) h = let p : 0 < b = omega (arith, ints, h) in omega (arith, ints)
floor_of-le (negsuc a) (pos b) h = let p : 0 < b = omega (arith, ints, h) in omega (arith, ints)

pub floor_of-lt : (n d : ℤ) → pos 0 <ℤ d → n <ℤ ((floor_of n d *ℤ d) +ℤ d)
floor_of-lt n (negsuc b) h = absurd (omega (arith, ints, h))
floor_of-lt (pos a) (pos b) h = let p : 0 < b = omega (arith, ints, h) in omega (arith, ints)
floor_of-lt (negsuc a) (pos b) h = let p : 0 < b = omega (arith, ints, h) in omega (arith, ints)

pub ceiling_of-ge : (n d : ℤ) → pos 0 <ℤ d → n ≤ℤ (ceiling_of n d *ℤ d)
ceiling_of-ge n d h = let l = floor_of-le (neg_ℤ n) d h in let e = neg-mul (floor_of (neg_ℤ n) d) d in rw e (omega (arith, ints, l))

-- a fraction that is no greater than a nearness has no greater floor
pub least_of_floor : (n : ℤ) (q : ℕ) (l a d : ℤ) → q < 2 ^ 32 → l ≡ pos q → a ≡ d → pos 0 <ℤ d → d ≤ℤ pos (2 ^ 61) → FitsSigned w128 (l *ℤ a) × (n ≤ℤ (l *ℤ a) → l ≡ int_max (pos q) (floor_of n d))
least_of_floor n q l a d small el ea h within =
    rw (el, ea) (
      let b = bounded-mul (2 ^ 32) (2 ^ 61) (pos q) d (omega (arith, ints, small), omega (arith, ints, small)) (omega (arith, ints, h), within) in omega (arith, ints, b),
      λ k.
          let f = floor_of-le n d h in
          let g = le_from_times (floor_of n d) (pos q) d h (through (floor_of n d *ℤ d) n (pos q *ℤ d) f k) in
          no_less (floor_of n d) (pos q) g,
    )
  where
    through : (x y z : ℤ) → x ≤ℤ y → y ≤ℤ z → x ≤ℤ z
    through x y z i j = omega (arith, ints, i, j)

    no_less : (x y : ℤ) → x ≤ℤ y → y ≡ int_max y x
    no_less x y i = omega (arith, ints, clamps, i)

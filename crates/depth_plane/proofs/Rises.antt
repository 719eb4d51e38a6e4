-- The floor of a number that rises above so many sizes, and no less than so many.
use Rattle.std.proofs.Common.{◌≡◌, ℕ, ℤ, pos, negsuc, nat_abs, ◌+◌, ◌*◌, ◌/◌, ◌<◌, ◌≤◌, ◌+ℤ◌, ◌*ℤ◌, ◌≤ℤ◌, ◌<ℤ◌, min, arith, refl}
use Rattle.std.specs.Int.{int_max}
use Rattle.std.proofs.lemmas.Int.{ints, clamps}
use Rattle.std.proofs.Math.Nat.{add-mul-div_right}
use Rattle.cull_base.specs.Depth.{cut_to_range, floor_of}
use Rattle.cull_base.specs.declared.nearness.TheConstants.{HELD_TOP}
use Rattle.depth_plane.proofs.Floors.{floor_of-le}
use Rattle.depth_plane.proofs.FloorLanes.{lt_step}

-- it rises by less than a size
pub less_than_size : (n r : ℤ) (q d : ℕ) → 0 < d → q ≤ HELD_TOP → n ≡ (pos q *ℤ pos d) +ℤ r → r <ℤ pos d → q ≡ cut_to_range HELD_TOP (int_max (pos q) (floor_of n (pos d)))
less_than_size n r q d h top e l =
    let p : pos 0 <ℤ pos d = omega (arith, ints, h) in
    let f = floor_of-le n (pos d) p in
    no_more (floor_of n (pos d)) (lt_step (floor_of n (pos d)) (pos q) (pos d) p (below (floor_of n (pos d) *ℤ pos d) (pos q *ℤ pos d) f e))
  where
    below : (a b : ℤ) → a ≤ℤ n → n ≡ b +ℤ r → a <ℤ (b +ℤ pos d)
    below a b i j = omega (arith, ints, i, j, l)

    no_more : (x : ℤ) → x ≤ℤ pos q → q ≡ cut_to_range HELD_TOP (int_max (pos q) x)
    no_more x le = let m : int_max (pos q) x ≡ pos q = omega (arith, ints, clamps, le) in rw m (omega (arith, top))

-- it rises by a size at least
pub by_sizes : (n r : ℤ) (q d : ℕ) → 0 < d → n ≡ (pos q *ℤ pos d) +ℤ r → pos d ≤ℤ r → min (q + nat_abs r / d) HELD_TOP ≡ cut_to_range HELD_TOP (int_max (pos q) (floor_of n (pos d)))
by_sizes n (negsuc r) q d h e l = absurd (omega (arith, ints, l))
by_sizes n (pos r) q d h e l =
    let m : n ≡ pos (r + q * d) = omega (arith, ints, e) in
    let a : (r + q * d) / d ≡ r / d + q = add-mul-div_right r q h in
    rw m (rw a (let g : int_max (pos q) (pos (r / d + q)) ≡ pos (q + r / d) = omega (arith, ints, clamps) in rw g refl))

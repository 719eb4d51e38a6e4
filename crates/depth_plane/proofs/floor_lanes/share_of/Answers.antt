use Rattle.std.proofs.Common.{◌≡◌, ℕ, ℤ, pos, ◌*◌, ◌≤ℤ◌, ◌+ℤ◌, ◌*ℤ◌, ◌^◌, FitsSigned, w64, arith, rules}
use lib.IntN.{nat_abs}
use Rattle.std.proofs.lemmas.Int.{ints, to_z-of_z}
use Rattle.depth_plane.proofs.FloorLanes.{share_is}
use Rattle.depth_plane.proofs.floor_lanes.share_of.Goals as goal

-- the number is no less than so many sizes below 0
not_negative : (n x : ℤ) (d : ℕ) → (pos (2 ^ 26 * d)) ≤ℤ (n +ℤ pos (2 ^ 27 * d)) → x ≡ n +ℤ pos (2 ^ 28 * d) → pos (nat_abs x) ≡ n +ℤ (pos (2 ^ 28) *ℤ pos d)
not_negative n x d h e = omega (arith, ints, h, e)

pub returns-clause-value : goal.returns-clause-value
returns-clause-value c =
    let fn : FitsSigned w64 c.args.number = c.ranges.number in
    let fr : FitsSigned w64 c.raised_by-raised.result = search rules in
    let d = c.args.size.now in
    let is = simp to_z-of_z at c.raised_by-raised.ensures in
    share_is c.args.number (nat_abs c.raised_by-raised.result) c.quotient-whole.result d c.rest_of.result
    (not_negative c.args.number c.raised_by-raised.result d (omega (arith, ints, c.requires.below)) (omega (arith, ints, is, c.number.ensures.value)))
    (simp to_z-of_z at c.rest_of.ensures.value)

use Rattle.std.proofs.Common.{◌≡◌, ℕ, ℤ, pos, ◌<◌, ◌*◌, ◌^◌, ◌+ℤ◌, ◌≤ℤ◌, FitsSigned, w64, arith}
use Rattle.std.proofs.lemmas.Int.{ints, to_z-of_z}
use Rattle.depth_plane.proofs.FloorLanes.{ShareOf, summed, share_le, are_floors}
use Rattle.depth_plane.proofs.floor_lanes.lanes_of.Goals as goal

-- the number of the last
seven_within : (x y : ℤ) (d : ℕ) → x ≤ℤ pos (2 ^ 26 * d) → y ≤ℤ pos (2 ^ 26 * d) → (y +ℤ ((x +ℤ x) +ℤ x)) ≤ℤ pos (2 ^ 28 * d)
seven_within x y d a b = omega (arith, ints, a, b)

pub invariant_of-result : goal.invariant_of-result
invariant_of-result c =
    let fx : FitsSigned w64 c.args.right = c.ranges.right in let fy : FitsSigned w64 c.args.below = c.ranges.below in
    let x = c.args.right in let y = c.args.below in let d = c.args.size in let k = c.number-number.result in
    let is : k ≡ d = c.number-number.ensures.value in
    let a = c.share_of-one in let b = c.sum-two in let t = c.sum-three in let f = c.share_of-four in let g = c.sum-five in let h = c.sum-six in let i = c.sum-seven in
    let s1 : ShareOf x d a.result.whole a.result.rest = simp to_z-of_z at a.ensures.value in
    let s4 : ShareOf y d f.result.whole f.result.rest = simp to_z-of_z at f.ensures.value in
    let s2 = summed x x d k a.result a.result b.result is s1 s1 b.ensures.value in
    let s3 = summed (x +ℤ x) x d k b.result a.result t.result is s2 s1 t.ensures.value in
    let s5 = summed y x d k f.result a.result g.result is s4 s1 g.ensures.value in
    let s6 = summed y (x +ℤ x) d k f.result b.result h.result is s4 s2 h.ensures.value in
    let s7 = summed y ((x +ℤ x) +ℤ x) d k f.result t.result i.result is s4 s3 i.ensures.value in
    let p : 0 < d = omega (arith, c.number-number.ensures.positive, is) in
    let w7 = share_le (y +ℤ ((x +ℤ x) +ℤ x)) d i.result.whole i.result.rest p s7 (seven_within x y d (omega (arith, ints, c.requires.right_above)) (omega (arith, ints, c.requires.below_above))) in
    let wa = a.ensures.most in let wf = f.ensures.most in let wb = b.ensures.most in let wt = t.ensures.most in let wg = g.ensures.most in let wh = h.ensures.most in
    simp to_z-of_z (record {
      are_floors = are_floors x y d a.result b.result t.result f.result g.result h.result i.result c.requires.small p
          a.ensures.rest (omega (arith, b.ensures.rest, is)) (omega (arith, t.ensures.rest, is)) f.ensures.rest (omega (arith, g.ensures.rest, is)) (omega (arith, h.ensures.rest, is)) (omega (arith, i.ensures.rest, is))
          (omega (arith, wa)) (omega (arith, wa, wb)) (omega (arith, wa, wb, wt)) (omega (arith, wf)) (omega (arith, wa, wf, wg)) (omega (arith, wa, wf, wb, wh)) (omega (arith, w7))
          s1 s2 s3 s4 s5 s6 s7;
    })

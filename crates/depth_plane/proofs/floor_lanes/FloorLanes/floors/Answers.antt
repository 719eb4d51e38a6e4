use Rattle.std.proofs.Common.{◌≡◌, ℕ, ℤ, pos, ◌+◌, ◌-◌, ◌*◌, ◌^◌, ◌+ℤ◌, ◌≤ℤ◌, ◌<ℤ◌, min, nat_le, cond, slice_index, slice_index_or, refl, ◌∙◌, FitsSigned, w64, arith, rules}
use lib.IntN.{nat_abs}
use Rattle.std.specs.Int.{int_max}
use Rattle.std.proofs.lemmas.Int.{ints, clamps, to_z-of_z}
use Rattle.cull_base.specs.declared.nearness.TheConstants.{HELD_TOP}
use Rattle.depth_plane.specs.Floors.{number_at}
use Rattle.depth_plane.proofs.FloorLanes.{lane_is}
use Rattle.depth_plane.proofs.floor_lanes.FloorLanes.floors.Goals as goal

-- what is divided, from 0 on
at_least : (n b x : ℤ) (d k : ℕ) → k ≡ d → b ≡ n +ℤ pos (2 ^ 29 * k) → x ≡ int_max b (pos 0) → pos 0 ≤ℤ (n +ℤ pos (2 ^ 29 * d)) → pos (nat_abs x) ≡ n +ℤ pos (2 ^ 29 * d)
at_least n b x d k ek eb ex h = omega (arith, ints, clamps, ek, eb, ex, h)

less : (n b x : ℤ) (d k : ℕ) → k ≡ d → b ≡ n +ℤ pos (2 ^ 29 * k) → x ≡ int_max b (pos 0) → (n +ℤ pos (2 ^ 29 * d)) <ℤ pos 0 → nat_abs x ≡ 0
less n b x d k ek eb ex h = omega (arith, ints, clamps, ek, eb, ex, h)

-- a lane's sum
sum_is : (v w q u r s k d a : ℕ) → k ≡ d → u ≡ min q (2 ^ 30) → a ≡ cond (nat_le k (r + s)) 1 0 → v ≡ min ((w + u + a) - (2 ^ 29 + 2 ^ 28)) HELD_TOP →
    v ≡ min ((w + min q (2 ^ 30) + cond (nat_le d (r + s)) 1 0) - (2 ^ 29 + 2 ^ 28)) HELD_TOP
sum_is v w q u r s k d a ek eu ea ev = ev ∙ (rw (eu, ea, ek) refl)

pub returns : goal.returns
returns c = λ j lt.
    let l = c.args.self.now in let n = c.args.number in let d = l.size in let k = c.number-size.result in
    let are = l.are_floors in
    let fn : FitsSigned w64 n = c.ranges.number in
    let fb : FitsSigned w64 c.raised_by.result = search rules in
    let fx : FitsSigned w64 c.max-raised.result = search rules in
    let eb = simp to_z-of_z at c.raised_by.ensures in
    let ex = simp to_z-of_z at c.max-raised.ensures.value in
    let ek : k ≡ d = c.number-size.ensures.value in
    let w = slice_index_or l.wholes j 0 in let r = slice_index_or l.rests j 0 in
    sum_is (slice_index c.cut_sums.result j) w c.quotient-whole.result c.min.result r c.rest_of-rest.result k d (slice_index_or c.carries_of-carries.result j 0) ek c.min.ensures (c.carries_of-carries.ensures.value j lt) (c.cut_sums.ensures j lt)
    ∙ lane_is n (number_at l.right l.below j) (n +ℤ pos (2 ^ 29 * d)) d (nat_abs c.max-raised.result) c.quotient-whole.result c.rest_of-rest.result w r (are.rests_within j lt) c.rest_of-rest.ensures.rest (are.wholes_within j lt) (are.numbers j lt) refl
    (at_least n c.raised_by.result c.max-raised.result d k ek eb ex) (less n c.raised_by.result c.max-raised.result d k ek eb ex) (simp to_z-of_z at c.rest_of-rest.ensures.value)

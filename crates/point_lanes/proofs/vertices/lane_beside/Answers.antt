use Rattle.std.proofs.Common.{◌≡◌, pos, ◌+ℤ◌, ◌-ℤ◌, ◌*ℤ◌, ◌<ℤ◌, FitsSigned, w64, rules, refl}
use Rattle.std.proofs.lemmas.Int.{to_z-of_z}
use Rattle.point_lanes.proofs.Pointing.{own_is}
use Rattle.point_lanes.proofs.vertices.lane_beside.Goals as goal

pub returns-then-are_within : goal.returns-then-are_within
returns-then-are_within c =
    let v = c.args.v.now in let a = c.from_left-across.result in let d = c.from_top-down.result in
    let fx : FitsSigned w64 v.x = search rules in let fy : FitsSigned w64 v.y = search rules in let fw : FitsSigned w64 v.w = search rules in
    let fa : FitsSigned w64 a = search rules in let fd : FitsSigned w64 d = search rules in
    let ea : a ≡ v.x +ℤ (pos 64 *ℤ v.w) = simp to_z-of_z at c.from_left-across.ensures.value in
    let ed : d ≡ (pos 64 *ℤ v.w) -ℤ v.y = simp to_z-of_z at c.from_top-down.ensures.value in
    let la : a <ℤ (pos 128 *ℤ v.w) = simp to_z-of_z at (c.if-are_within.ensures.across_most refl) in
    let ld : d <ℤ (pos 128 *ℤ v.w) = simp to_z-of_z at (c.if-are_within.ensures.down_most refl) in
    let ra : pos c.own_lane.result.across ≡ a = simp to_z-of_z at c.own_lane.ensures.across in
    let rd : pos c.own_lane.result.down ≡ d = simp to_z-of_z at c.own_lane.ensures.down in
    let rw_is : pos c.own_lane.result.w ≡ v.w = simp to_z-of_z at c.own_lane.ensures.w in
    own_is v c.args.near c.own_lane.result.across c.own_lane.result.down c.own_lane.result.w c.own_lane.result.own a d c.requires.most c.requires.reach ea ed la ld ra rd rw_is

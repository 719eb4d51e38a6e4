use Rattle.std.proofs.Common.{rules, ◌≤ℤ◌, FitsSigned, w64, to_z, take, get_or, sym}
use Rattle.std.proofs.lemmas.Int.{to_z-of_z}
use Rattle.std.proofs.lemmas.List.{take_all}
use Rattle.std.proofs.lemmas.List.Elements.{All-same}
use Rattle.box_rays.proofs.Points.{nearest_more}
use Rattle.box_rays.proofs.Sums.{no_corner}
use Rattle.box_rays.proofs.nearness.nearest_of.Goals as goal

pub loop-v-preserved : goal.loop-v-preserved
loop-v-preserved c =
    let vs = c.args.corners.now in let i = c.loop-v.v-index in
    let next : FitsSigned w64 c.min-nearest.result = search rules in let here : FitsSigned w64 (get_or vs i no_corner).w = search rules in
    simp to_z-of_z (nearest_more c.min-nearest.result (to_z w64 c.loop-v.nearest-bits) vs i no_corner c.loop-v-test.true c.loop-v.invariant
    c.min-nearest.ensures.self_bound (simp to_z-of_z at c.min-nearest.ensures.other_bound))

pub returns : goal.returns
returns c =
    let vs = c.args.corners.now in let i = c.loop-v.v-index in
    All-same (λ v. to_z w64 c.loop-v.nearest-bits ≤ℤ v.w) vs (take i vs) (sym (take_all i vs c.loop-v-test.false)) c.loop-v.invariant

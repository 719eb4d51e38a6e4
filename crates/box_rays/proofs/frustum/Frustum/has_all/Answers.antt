use Rattle.std.proofs.Common.{◌*◌, ◌^◌, take, sym}
use Rattle.std.proofs.lemmas.List.{take_all}
use Rattle.std.proofs.lemmas.List.Elements.{All-more, All-same}
use Rattle.box_rays.specs.Frustums.{IsWithin}
use Rattle.box_rays.proofs.Sums.{IsSure, all_sure, no_corner}
use Rattle.box_rays.proofs.frustum.Frustum.has_all.Goals as goal

pub loop-v-preserved : goal.loop-v-preserved
loop-v-preserved c =
    All-more (IsSure (IsWithin c.args.self.now)) c.args.corners.now c.loop-v.v-index no_corner c.loop-v-test.true c.loop-v.invariant
    (λ unit exact holds. c.has.ensures c.if-not-has.false (unit * 2 ^ c.args.shift) exact (c.of.ensures.stands unit exact holds))

pub returns : goal.returns
returns c =
    let vs = c.args.corners.now in let i = c.loop-v.v-index in let P = IsWithin c.args.self.now in
    let all = All-same (IsSure P) vs (take i vs) (sym (take_all i vs c.loop-v-test.false)) c.loop-v.invariant in
    λ is unit points held. all_sure P unit vs points all held

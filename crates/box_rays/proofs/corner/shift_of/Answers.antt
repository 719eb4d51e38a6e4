use Rattle.std.proofs.Common.{◌≤◌, take, get_or, max, sym, ap, ◌∙◌, arith}
use Rattle.std.proofs.lemmas.List.{take_all}
use Rattle.std.proofs.lemmas.List.Elements.{All-more, All-same, All-weaker}
use Rattle.box_rays.specs.Corners.{IsReach, IsShort}
use Rattle.box_rays.proofs.Floors.{reach_more, short_by}
use Rattle.box_rays.proofs.Sums.{no_corner}
use Rattle.box_rays.proofs.corner.shift_of.Goals as goal

pub loop-v-preserved : goal.loop-v-preserved
loop-v-preserved c =
    let vs = c.args.corners.now in let i = c.loop-v.v-index in let most = c.loop-v.most in let new = c.max-most.result in
    let before : most ≤ new = omega arith in let here : c.reach_of.result ≤ new = omega arith in (
      omega arith,
      All-more (IsReach new) vs i no_corner c.loop-v-test.true (All-weaker (IsReach most) (IsReach new) (reach_more most new before) (take i vs) c.loop-v.invariant.1)
          (reach_more c.reach_of.result new here (get_or vs i no_corner) c.reach_of.ensures),
    )

pub returns-clause-short : goal.returns-clause-short
returns-clause-short c =
    let vs = c.args.corners.now in let i = c.loop-v.v-index in let most = c.loop-v.most in let shift = c.max.result in
    All-same (IsShort shift) vs (take i vs) (sym (take_all i vs c.loop-v-test.false))
    (All-weaker (IsReach most) (IsShort shift) (short_by most c.ilog2.result shift c.ilog2.ensures.next_power_gt (c.max.ensures ∙ ap (λ n. max n 2) c.saturating_sub.ensures)) (take i vs) c.loop-v.invariant.1)

use Rattle.std.proofs.Common.{◌≡◌, ◌∙◌, take, drop, get_or, arith}
use Rattle.std.proofs.lemmas.List.{take_all}
use Rattle.rect_query.proofs.Corners.{no_vertex, rest_is}
use Rattle.rect_query.proofs.Reaching.{reach_more, reach_is}
use Rattle.rect_query.proofs.reach.Reach.of_all.Goals as goal

pub loop-corner-preserved : goal.loop-corner-preserved
loop-corner-preserved c =
    reach_more (get_or c.args.corners.now 0 no_vertex) (take 7 (drop 1 c.args.corners.now)) c.loop-corner.corner-index no_vertex c.loop-corner.reach c.with-reach.result c.loop-corner-test.true
    c.loop-corner.invariant c.with-reach.ensures

pub returns-clause-value : goal.returns-clause-value
returns-clause-value c =
    let vs = c.args.corners.now in
    let rest = take 7 (drop 1 vs) in
    let all : take c.loop-corner.corner-index rest ≡ drop 1 vs = take_all c.loop-corner.corner-index rest c.loop-corner-test.false ∙ rest_is vs c.told-corners in
    (rw all at c.loop-corner.invariant) ∙ reach_is vs no_vertex (omega (arith, c.told-corners))

pub returns-clause-some : goal.returns-clause-some
returns-clause-some c = omega (arith, c.told-corners)

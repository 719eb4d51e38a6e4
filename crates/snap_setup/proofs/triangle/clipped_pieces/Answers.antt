use Rattle.std.proofs.Common.{arith, ◌∙◌}
use Rattle.cull_base.specs.Grade.{top_of}
use Rattle.snap_setup.proofs.KeptPieces.{all_within_guard, part_none, part_three, part_four}
use Rattle.snap_setup.proofs.triangle.clipped_pieces.Goals as goal

pub clip_near-polygon-requires-clause-guarded : goal.clip_near-polygon-requires-clause-guarded
clip_near-polygon-requires-clause-guarded c = all_within_guard c.args.tri.now.v0.now c.args.tri.now.v1.now c.args.tri.now.v2.now c.args.near.distance c.requires.guarded

pub returns-then-len-eq0 : goal.returns-then-len-eq0
returns-then-len-eq0 c =
    c.none.ensures ∙ part_none c.args.tri.now.v0.now c.args.tri.now.v1.now c.args.tri.now.v2.now (top_of c.args.grade) c.args.near.distance c.args.size c.args.winding c.args.side c.clip_near-polygon.result c.clip_near-polygon.ensures.value (omega (arith, c.len.ensures.value, c.if-len-eq0.true))

pub returns-then-len-eq3 : goal.returns-then-len-eq3
returns-then-len-eq3 c =
    part_three c.args.tri.now.v0.now c.args.tri.now.v1.now c.args.tri.now.v2.now (top_of c.args.grade) c.args.near.distance c.args.size c.args.winding c.args.side c.clip_near-polygon.result
    c.get.result c.get-2.result c.get-3.result c.snap-p0.result c.snap-p1.result c.snap-p2.result c.piece-first.result c.of.result
    c.clip_near-polygon.ensures.value (omega (arith, c.len-2.ensures.value, c.if-len-eq3.true))
    c.get.ensures c.get-2.ensures c.get-3.ensures c.snap-p0.ensures.value c.snap-p1.ensures.value c.snap-p2.ensures.value c.piece-first.ensures c.of.ensures

pub returns : goal.returns
returns c =
    part_four c.args.tri.now.v0.now c.args.tri.now.v1.now c.args.tri.now.v2.now (top_of c.args.grade) c.args.near.distance c.args.size c.args.winding c.args.side c.clip_near-polygon.result
    c.get.result c.get-2.result c.get-3.result c.get-4.result c.snap-p0.result c.snap-p1.result c.snap-p2.result c.snap-p3.result c.piece-first.result c.piece-second.result c.of-2.result
    c.clip_near-polygon.ensures.value
    (omega (arith, c.len.ensures.value, c.len.ensures.most, c.len.ensures.not_one, c.len.ensures.not_two, c.if-len-eq0.false, c.len-2.ensures.value, c.if-len-eq3.false))
    c.get.ensures c.get-2.ensures c.get-3.ensures c.get-4.ensures c.snap-p0.ensures.value c.snap-p1.ensures.value c.snap-p2.ensures.value c.snap-p3.ensures.value c.piece-first.ensures c.piece-second.ensures c.of-2.ensures

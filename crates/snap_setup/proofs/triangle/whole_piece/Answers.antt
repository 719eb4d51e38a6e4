use Rattle.cull_base.specs.Grade.{top_of}
use Rattle.snap_setup.proofs.KeptPieces.{fronts, guards, whole_in_reach, part_whole}
use Rattle.snap_setup.proofs.triangle.whole_piece.Goals as goal

pub snap-p0-requires-clause-reach : goal.snap-p0-requires-clause-reach
snap-p0-requires-clause-reach c =
    whole_in_reach c.args.near.distance c.args.tri.now.v0.now c.whole.result c.whole.ensures (guards c.args.tri.now.v0.now c.args.tri.now.v1.now c.args.tri.now.v2.now c.args.near.distance c.requires.guarded).0 (fronts c.args.tri.now.v0.now c.args.tri.now.v1.now c.args.tri.now.v2.now c.args.near.distance c.requires.front).0

pub snap-p1-requires-clause-reach : goal.snap-p1-requires-clause-reach
snap-p1-requires-clause-reach c =
    whole_in_reach c.args.near.distance c.args.tri.now.v1.now c.whole-2.result c.whole-2.ensures (guards c.args.tri.now.v0.now c.args.tri.now.v1.now c.args.tri.now.v2.now c.args.near.distance c.requires.guarded).1 (fronts c.args.tri.now.v0.now c.args.tri.now.v1.now c.args.tri.now.v2.now c.args.near.distance c.requires.front).1

pub snap-p2-requires-clause-reach : goal.snap-p2-requires-clause-reach
snap-p2-requires-clause-reach c =
    whole_in_reach c.args.near.distance c.args.tri.now.v2.now c.whole-3.result c.whole-3.ensures (guards c.args.tri.now.v0.now c.args.tri.now.v1.now c.args.tri.now.v2.now c.args.near.distance c.requires.guarded).2 (fronts c.args.tri.now.v0.now c.args.tri.now.v1.now c.args.tri.now.v2.now c.args.near.distance c.requires.front).2

pub returns : goal.returns
returns c =
    part_whole c.args.tri.now.v0.now c.args.tri.now.v1.now c.args.tri.now.v2.now (top_of c.args.grade) c.args.near.distance c.args.size c.args.winding c.args.side
    c.whole.result c.whole-2.result c.whole-3.result c.snap-p0.result c.snap-p1.result c.snap-p2.result c.piece.result
    c.requires.front c.whole.ensures c.whole-2.ensures c.whole-3.ensures c.snap-p0.ensures.value c.snap-p1.ensures.value c.snap-p2.ensures.value c.piece.ensures

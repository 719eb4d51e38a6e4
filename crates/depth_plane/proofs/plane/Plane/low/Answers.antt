use Rattle.cull_base.specs.Piece.{sample}
use Rattle.depth_plane.proofs.Mean.{touches_covered}
use Rattle.depth_plane.proofs.Depths.{low_of-below, low_of-computed}
use Rattle.depth_plane.proofs.plane.Plane.low.Goals as goal

pub returns-clause-value : goal.returns-clause-value
returns-clause-value c =
    low_of-computed c.args.tri.now c.args.sub c.args.self.now c.least_nearness.result c.low_above.result c.requires.plane c.least_nearness.ensures.value c.low_above.ensures

pub returns-clause-below : goal.returns-clause-below
returns-clause-below c k lt e =
    let v = returns-clause-value c in
    rw v (low_of-below c.args.tri.now c.args.sub k c.least_nearness.ensures.valid lt (touches_covered c.args.tri.now (sample c.args.sub k) e))

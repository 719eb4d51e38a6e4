use Rattle.std.proofs.Common.{arith}
use Rattle.std.proofs.lemmas.Int.{clamps, ints}
use Rattle.edge_lanes.proofs.narrow_edge.narrow_highest.Goals as goal

pub returns : goal.returns
returns c = omega (arith, ints, clamps, c.max.ensures, c.max-2.ensures, c.requires, c.ranges)

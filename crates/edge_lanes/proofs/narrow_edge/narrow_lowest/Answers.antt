use Rattle.std.proofs.Common.{arith}
use Rattle.std.proofs.lemmas.Int.{clamps, ints}
use Rattle.edge_lanes.proofs.narrow_edge.narrow_lowest.Goals as goal

pub overflow_add-result : goal.overflow_add-result
overflow_add-result c = omega (arith, ints, clamps, c.min.ensures, c.min-2.ensures, c.requires, c.ranges)

pub returns : goal.returns
returns c = omega (arith, ints, clamps, c.min.ensures, c.min-2.ensures, c.requires, c.ranges)

use Rattle.std.proofs.Common.{refl}
use Rattle.edge_lanes.specs.Crossings.{inside_rows}
use Rattle.edge_lanes.proofs.row_edges.plain.Goals as goal

pub returns : goal.returns
unfolding inside_rows
returns c u = c.of.ensures.covered refl u

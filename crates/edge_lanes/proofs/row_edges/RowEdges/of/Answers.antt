use Rattle.edge_lanes.specs.Crossings.{inside_rows}
use Rattle.edge_lanes.proofs.row_edges.RowEdges.of.Goals as goal

pub returns-in-Some : goal.returns-in-Some
unfolding inside_rows
returns-in-Some c = c.crossings-crossings.ensures c.args.tri.now c.in-Some.ensures

pub returns-in-None : goal.returns-in-None
returns-in-None c u lc lr = c.plain.ensures u

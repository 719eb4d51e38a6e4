use Rattle.edge_lanes.proofs.Rows.{crossed_in-covered}
use Rattle.edge_lanes.proofs.near_edges.NearEdges.crossings.Goals as goal

pub returns : goal.returns
returns c x are = crossed_in-covered are.lines x c.of.result are.edges (c.of.ensures are.lines are.turned)

use Rattle.edge_lanes.specs.Inside.{narrow_lines}
use Rattle.edge_lanes.proofs.near_edges.NearEdges.of.Goals as goal

pub returns-then-are_near : goal.returns-then-are_near
returns-then-are_near c = record { lines = narrow_lines c.of.result; edges = c.of.ensures; turned = c.of-turned.ensures }

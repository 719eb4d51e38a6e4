use Rattle.edge_lanes.proofs.Sharing.{is_top_or_left-reversed, edge_covers-reversed, covers-beside}
use Rattle.edge_lanes.proofs.shared.shared_edge.Goals as goal

pub returns-clause-direction : goal.returns-clause-direction
returns-clause-direction c = is_top_or_left-reversed

pub returns-clause-side : goal.returns-clause-side
returns-clause-side c = edge_covers-reversed

pub returns-clause-pieces : goal.returns-clause-pieces
returns-clause-pieces c = covers-beside

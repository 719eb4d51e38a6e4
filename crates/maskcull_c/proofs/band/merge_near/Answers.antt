use Rattle.edge_lanes.specs.Crossings.{inside_view}
use Rattle.maskcull_c.proofs.band.merge_near.Goals as goal

pub merge_by_edges-requires-clause-edges : goal.merge_by_edges-requires-clause-edges
unfolding inside_view
merge_by_edges-requires-clause-edges c = c.crossings-crossings.ensures c.args.tri.now c.requires.edges

use Rattle.edge_lanes.specs.Crossings.{inside_view}
use Rattle.tile_queues.proofs.cell_bin.store_near.Goals as goal

pub store_by_edges-requires-clause-edges : goal.store_by_edges-requires-clause-edges
unfolding inside_view
store_by_edges-requires-clause-edges g c = c.crossings-crossings.ensures c.args.tri.now c.requires.edges

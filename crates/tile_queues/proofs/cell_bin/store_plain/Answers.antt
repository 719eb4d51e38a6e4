use Rattle.std.proofs.Common.{refl}
use Rattle.edge_lanes.specs.Crossings.{inside_view}
use Rattle.tile_queues.proofs.cell_bin.store_plain.Goals as goal

pub store_by_edges-requires-clause-edges : goal.store_by_edges-requires-clause-edges
unfolding inside_view
store_by_edges-requires-clause-edges g c u lc lr = c.of-edges.ensures.covered refl u

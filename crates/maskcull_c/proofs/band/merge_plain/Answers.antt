use Rattle.std.proofs.Common.{refl}
use Rattle.edge_lanes.specs.Crossings.{inside_view}
use Rattle.maskcull_c.proofs.band.merge_plain.Goals as goal

pub merge_by_edges-requires-clause-edges : goal.merge_by_edges-requires-clause-edges
unfolding inside_view
merge_by_edges-requires-clause-edges c u lc lr = c.of-edges.ensures.covered refl u

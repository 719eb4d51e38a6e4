use Rattle.std.proofs.Common.{◌+◌, sym, ◌∙◌}
use Rattle.std.proofs.lemmas.Simd.{length-zip2}
use Rattle.depth_plane.proofs.FloorLanes.{sums_fit}
use Rattle.depth_plane.proofs.floor_lanes.sums_of.Goals as goal

pub overflow_add-result : goal.overflow_add-result
overflow_add-result c = sums_fit c.args.a c.args.b c.fits-a.0 c.requires

pub returns-clause-eight : goal.returns-clause-eight
returns-clause-eight c = length-zip2 (λ n m. n + m) c.args.a c.args.b (c.fits-a.0 ∙ sym c.fits-b.0) ∙ c.fits-a.0

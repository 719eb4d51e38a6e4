use Rattle.std.proofs.Common.{◌+◌, ◌∙◌}
use Rattle.std.proofs.lemmas.Simd.{zip2_splat, length-zip2}
use Rattle.depth_plane.proofs.FloorLanes.{moved_fits}
use Rattle.depth_plane.proofs.floor_lanes.moved.Goals as goal

pub overflow_add-result : goal.overflow_add-result
overflow_add-result c = moved_fits c.args.numbers c.args.by c.fits-numbers.0 c.requires

pub returns-clause-value : goal.returns-clause-value
returns-clause-value c = zip2_splat (λ n m. n + m) c.args.numbers 8 c.args.by c.fits-numbers.0

pub returns-clause-eight : goal.returns-clause-eight
returns-clause-eight c = length-zip2 (λ n m. n + m) c.args.numbers _ c.fits-numbers.0 ∙ c.fits-numbers.0

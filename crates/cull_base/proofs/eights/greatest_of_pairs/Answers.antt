use Rattle.cull_base.proofs.EightLanes.{greatest_lanes}
use Rattle.cull_base.proofs.eights.greatest_of_pairs.Goals as goal

pub returns : goal.returns
returns c = greatest_lanes c.args.a c.args.b

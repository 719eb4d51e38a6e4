use Rattle.cull_base.proofs.EightLanes.{least_lanes}
use Rattle.cull_base.proofs.eights.least_of_pairs.Goals as goal

pub returns : goal.returns
returns c = least_lanes c.args.a c.args.b

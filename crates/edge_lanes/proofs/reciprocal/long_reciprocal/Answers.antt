use Rattle.edge_lanes.proofs.Reciprocals.{is_long}
use Rattle.edge_lanes.proofs.reciprocal.long_reciprocal.Goals as goal
use Rattle.std.proofs.Common.{refl}

pub returns : goal.returns
returns c = is_long c.args.number _ c.requires refl

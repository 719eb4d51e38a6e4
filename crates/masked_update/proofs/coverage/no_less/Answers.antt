use Rattle.std.proofs.Common.{[], ◌∷◌}
use Rattle.cull_base.proofs.EightLanes.{greatest_lanes}
use Rattle.masked_update.proofs.coverage.no_less.Goals as goal

pub returns : goal.returns
returns c = greatest_lanes c.args.numbers (c.args.least ∷ c.args.least ∷ c.args.least ∷ c.args.least ∷ c.args.least ∷ c.args.least ∷ c.args.least ∷ c.args.least ∷ [])

use Rattle.edge_lanes.proofs.SpanLanes.{at_most_8_long, at_most_8_at}
use Rattle.edge_lanes.proofs.spans.past.Goals as goal

pub returns-clause-long : goal.returns-clause-long
returns-clause-long c = at_most_8_long c.args.numbers c.args.starts c.requires.long c.requires.starts

pub returns-clause-value : goal.returns-clause-value
returns-clause-value c = at_most_8_at c.args.numbers c.args.starts c.requires.long c.requires.starts c.fits-numbers.1 c.fits-starts.1

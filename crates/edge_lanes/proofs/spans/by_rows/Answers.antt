use Rattle.edge_lanes.proofs.SpanBytes.{row_byte}
use Rattle.edge_lanes.proofs.spans.by_rows.Goals as goal

pub returns-clause-value : goal.returns-clause-value
returns-clause-value c = row_byte c.args.numbers c.requires.eight c.fits-numbers.1 c.requires.within

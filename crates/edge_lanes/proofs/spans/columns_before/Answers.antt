use Rattle.edge_lanes.proofs.SpanLanes.{none_below, cut_long, cut_at}
use Rattle.edge_lanes.proofs.spans.columns_before.Goals as goal

pub overflow_sub-result : goal.overflow_sub-result
overflow_sub-result c = none_below c.args.column c.args.ends c.requires

pub returns-clause-eight : goal.returns-clause-eight
returns-clause-eight c = cut_long c.args.column c.args.count c.args.ends c.requires

pub returns-clause-value : goal.returns-clause-value
returns-clause-value c = cut_at c.args.column c.args.count c.args.ends c.requires

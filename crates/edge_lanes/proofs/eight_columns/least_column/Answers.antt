use Rattle.edge_lanes.proofs.EightColumns.{least_of_eight}
use Rattle.edge_lanes.proofs.eight_columns.least_column.Goals as goal

pub returns : goal.returns
returns c = least_of_eight c.args.numbers c.requires c.from.result c.from.ensures

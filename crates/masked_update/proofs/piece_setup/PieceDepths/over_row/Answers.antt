use Rattle.masked_update.proofs.Covering.{row_of_edges}
use Rattle.masked_update.proofs.piece_setup.PieceDepths.over_row.Goals as goal

pub returns : goal.returns
returns c = row_of_edges c.over_row.result c.args.edges c.args.row c.args.self.now c.requires.edges c.over_row.ensures.edges c.over_row.ensures.row

use Rattle.std.proofs.Common.{ap, ◌∙◌, length}
use Rattle.masked_update.proofs.Merging.{eight_merged}
use Rattle.masked_update.proofs.tile_state.TileState.merge_among.Goals as goal

pub returns-clause-eight : goal.returns-clause-eight
returns-clause-eight c = ap length c.merge_among.ensures.merged ∙ eight_merged c.args.size c.args.place c.args.piece.now c.self.inside.layers

use Rattle.std.proofs.Common.{ap, ◌∙◌, length}
use Rattle.masked_update.proofs.Merging.{eight_merged}
use Rattle.masked_update.proofs.tile_state.TileState.merge.Goals as goal

pub returns-clause-eight : goal.returns-clause-eight
returns-clause-eight c = ap length c.merge_into.ensures ∙ eight_merged c.args.reached.now.size c.args.place c.args.piece.now c.self.inside.layers

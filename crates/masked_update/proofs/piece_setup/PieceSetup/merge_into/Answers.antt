use Rattle.std.proofs.Common.{ap, ◌∙◌, subst, sym}
use Rattle.cull_base.specs.Piece.{Piece, box_of}
use Rattle.masked_update.specs.Merged.{IsSubBox, merged_by}
use Rattle.masked_update.proofs.piece_setup.PieceSetup.merge_into.Goals as goal

pub merge_into-requires-clause-edges : goal.merge_into-requires-clause-edges
merge_into-requires-clause-edges c u lc lr = c.view.ensures u ∙ c.self.invariant.edges_cover u lc lr

pub merge_into-requires-clause-reached : goal.merge_into-requires-clause-reached
merge_into-requires-clause-reached c = subst (λ (y : Piece). IsSubBox (box_of y) c.args.reached.now) (sym c.self.view_is) c.requires.reached

pub returns : goal.returns
returns c = c.merge_into.ensures ∙ ap (λ (y : Piece). merged_by c.args.reached.now.size c.args.place y c.args.layers.now) c.self.view_is

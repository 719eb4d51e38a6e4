use Rattle.std.proofs.Common.{subst}
use Rattle.cull_base.specs.Piece.{Piece, box_of}
use Rattle.masked_update.specs.Merged.{IsSubBox}
use Rattle.masked_update.proofs.piece_setup.PieceSetup.reached_on.Goals as goal

pub returns-clause-reached : goal.returns-clause-reached
returns-clause-reached c = subst (λ (y : Piece). IsSubBox (box_of y) c.reached_on.result) c.self.view_is c.reached_on.ensures.reached

use Rattle.std.proofs.Common.{◌∙◌, ap, sym}
use Rattle.cull_base.specs.Piece.{Piece, covered}
use Rattle.masked_update.proofs.piece_setup.PieceSetup.of.Goals as goal

pub invariant_of-result : goal.invariant_of-result
invariant_of-result c = record { edges_cover = λ u lc lr. c.of-edges.ensures u lc lr ∙ ap (λ (y : Piece). covered y u) (sym c.of-depths.ensures.value) }

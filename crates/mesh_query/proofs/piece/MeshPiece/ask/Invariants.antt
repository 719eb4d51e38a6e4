use Rattle.masked_update.specs.Views.{state_in}
use Rattle.mesh_query.specs.Asked.{Asked, TouchedIn}
use Rattle.mesh_query.proofs.TileParts.{BeforeRow}
use Rattle.mesh_query.proofs.piece.MeshPiece.ask.Given as goal

abbrev pub invariant-loop-row : goal.invariant-loop-row
invariant-loop-row g l = Asked (state_in l.size (g.V.TileView.tile_of l.view)) (TouchedIn l.size l.self (BeforeRow l.row)) l.known l.touched

use Rattle.masked_update.specs.Views.{state_in}
use Rattle.mesh_query.specs.Asked.{Asked, TouchedIn}
use Rattle.mesh_query.proofs.TileParts.{BeforeTile}
use Rattle.mesh_query.proofs.piece.MeshPiece.ask_row.Given as goal

abbrev pub invariant-loop-column : goal.invariant-loop-column
invariant-loop-column g l = Asked (state_in l.size (g.V.TileView.tile_of l.view)) (TouchedIn l.size l.self (BeforeTile l.row l.column)) l.known l.touched

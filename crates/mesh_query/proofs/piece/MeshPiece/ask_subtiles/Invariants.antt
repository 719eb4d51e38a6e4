use Rattle.mesh_query.specs.Asked.{Asked, TouchedIn, states_of}
use Rattle.mesh_query.proofs.TileParts.{BeforeSub}
use Rattle.mesh_query.proofs.piece.MeshPiece.ask_subtiles.Given as goal

abbrev pub invariant-loop-j : goal.invariant-loop-j
invariant-loop-j l = Asked (states_of l.state) (TouchedIn l.size l.self (BeforeSub l.place l.j)) l.known l.touched

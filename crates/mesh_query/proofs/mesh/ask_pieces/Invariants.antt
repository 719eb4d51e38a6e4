use Rattle.std.proofs.Common.{take, map}
use Rattle.cull_base.specs.Piece.{box_of}
use Rattle.masked_update.specs.Views.{state_in}
use Rattle.mesh_query.specs.Asked.{HasAsked}
use Rattle.mesh_query.proofs.mesh.ask_pieces.Given as goal

abbrev pub invariant-loop-i : goal.invariant-loop-i
invariant-loop-i g l = HasAsked (state_in l.size (g.V.TileView.tile_of l.view)) l.size (take l.i l.pieces) (map box_of (take l.i l.pieces)) l.fn.before (record { met = l.met; touched = l.touched })

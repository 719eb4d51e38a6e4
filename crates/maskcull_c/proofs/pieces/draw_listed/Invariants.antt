use Rattle.std.proofs.Common.{take}
use Rattle.maskcull_c.specs.Bands.{AreMerged, first_in}
use Rattle.maskcull_c.proofs.pieces.draw_listed.Given as goal

abbrev pub invariant-loop-piece : goal.invariant-loop-piece
invariant-loop-piece l = AreMerged l.size (first_in l.size l.window) (take l.piece-index l.pieces) l.initial.tiles l.tiles

use Rattle.std.proofs.Common.{take}
use Rattle.maskcull_c.specs.Bands.{AreMerged, first_in}
use Rattle.maskcull_c.proofs.draw.draw_pieces.Given as goal

abbrev pub invariant-loop-k : goal.invariant-loop-k
invariant-loop-k l = AreMerged l.size (first_in l.size l.window) (take l.k l.pieces) l.initial.tiles l.tiles

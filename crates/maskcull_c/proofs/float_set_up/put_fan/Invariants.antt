use Rattle.std.proofs.Common.{take}
use Rattle.maskcull_c.specs.Pieces.{AreListed}
use Rattle.maskcull_c.proofs.float_set_up.put_fan.Given as goal

abbrev pub invariant-loop-k : goal.invariant-loop-k
invariant-loop-k l = AreListed l.at (take l.k l.pieces) l.initial.rooms l.rooms

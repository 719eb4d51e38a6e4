use Rattle.std.proofs.Common.{◌*◌}
use Rattle.maskcull_c.specs.Lenses.{AreAdded}
use Rattle.maskcull_c.proofs.float_set_up.put_triangles.Given as goal

abbrev pub invariant-loop-k : goal.invariant-loop-k
invariant-loop-k l = AreAdded l.lens l.positions l.triangles (14 * l.k) 0 l.at l.initial.rooms l.rooms

use Rattle.std.proofs.Common.{arith}
use Rattle.maskcull_c.proofs.MeshPieces.{added_none}
use Rattle.maskcull_c.proofs.float_set_up.put_triangle.Goals as goal

pub returns-in-Some : goal.returns-in-Some
returns-in-Some c positions held = record {
  pieces = c.in-Some.pieces;
  listed = c.put_fan.ensures.listed;
  after = c.put_fan.ensures.next;
  within = c.in-Some.ensures.within positions held;
  few = c.in-Some.ensures.few;
}

pub returns-in-None : goal.returns-in-None
returns-in-None c positions held = added_none c.args.lens.now positions c.args.triangles.now 7 c.args.at c.args.rooms.now (let room = c.requires.room in omega (arith, room))

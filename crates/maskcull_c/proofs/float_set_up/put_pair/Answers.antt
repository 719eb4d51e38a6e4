use Rattle.std.proofs.Common.{arith}
use Rattle.maskcull_c.proofs.MeshPieces.{added_then}
use Rattle.maskcull_c.proofs.float_set_up.put_pair.Goals as goal

pub returns-in-Some : goal.returns-in-Some
returns-in-Some c =
    let few = c.in-Some.ensures.few in
    record {
      pieces = c.in-Some.pieces;
      listed = c.put_fan.ensures.listed;
      after = c.put_fan.ensures.next;
      within = c.in-Some.ensures.within;
      few = omega (arith, few);
    }

pub put_triangle-requires-clause-room : goal.put_triangle-requires-clause-room
put_triangle-requires-clause-room c =
    let first = c.put_triangle-next.ensures c.args.positions.now c.requires.held in
    let room = c.requires.room in let after = first.after in let few = first.few in let whole = first.listed.whole in
    omega (arith, room, after, few, whole)

pub returns : goal.returns
returns c =
    added_then c.args.lens.now c.args.positions.now c.args.triangles.now 7 7 c.args.at c.put_triangle-next.result c.put_triangle.result c.args.rooms.now c.put_triangle-next.new.rooms c.put_triangle.new.rooms
    (c.put_triangle-next.ensures c.args.positions.now c.requires.held) (c.put_triangle.ensures c.args.positions.now c.requires.held)

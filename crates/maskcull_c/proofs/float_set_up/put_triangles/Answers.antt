use Rattle.std.proofs.Common.{◌≡◌, ◌+◌, ◌*◌, arith, subst}
use Rattle.maskcull_c.specs.Lenses.{AreAdded}
use Rattle.maskcull_c.proofs.MeshPieces.{added_none, added_then, all_added}
use Rattle.maskcull_c.proofs.float_set_up.put_triangles.Goals as goal

pub loop-k-init : goal.loop-k-init
loop-k-init c = added_none c.args.lens.now c.args.positions.now c.args.triangles.now 0 0 c.args.rooms.now (omega arith)

pub put_pair-at-requires-clause-room : goal.put_pair-at-requires-clause-room
put_pair-at-requires-clause-room c =
    let now = c.loop-k.invariant in
    let after = now.after in let few = now.few in let whole = now.listed.whole in let room = c.requires.room in
    omega (arith, after, few, whole, room, c.loop-k-test.true)

pub loop-k-preserved : goal.loop-k-preserved
loop-k-preserved c =
    let k = c.loop-k.k in
    let more = added_then c.args.lens.now c.args.positions.now c.args.triangles.now (14 * k) 14 0 c.loop-k.at c.put_pair-at.result c.args.rooms.now c.loop-k.rooms c.put_pair-at.new.rooms c.loop-k.invariant c.put_pair-at.ensures in
    let next : 14 * k + 14 ≡ 14 * (k + 1) = omega arith in
    subst (λ n. AreAdded c.args.lens.now c.args.positions.now c.args.triangles.now n 0 c.put_pair-at.result c.args.rooms.now c.put_pair-at.new.rooms) next more

pub put_triangle-requires-clause-room : goal.put_triangle-requires-clause-room
put_triangle-requires-clause-room c =
    let now = c.loop-k.invariant in
    let after = now.after in let few = now.few in let whole = now.listed.whole in let room = c.requires.room in
    omega (arith, after, few, whole, room)

pub returns-then-triangles-eq1 : goal.returns-then-triangles-eq1
returns-then-triangles-eq1 c =
    let k = c.loop-k.k in
    all_added c.args.lens.now c.args.positions.now c.args.triangles.now (14 * k + 7) c.put_triangle.result c.args.rooms.now c.put_triangle.new.rooms
    (added_then c.args.lens.now c.args.positions.now c.args.triangles.now (14 * k) 7 0 c.loop-k.at c.put_triangle.result c.args.rooms.now c.loop-k.rooms c.put_triangle.new.rooms
    c.loop-k.invariant (c.put_triangle.ensures c.args.positions.now c.requires.held))

pub returns : goal.returns
returns c = all_added c.args.lens.now c.args.positions.now c.args.triangles.now (14 * c.loop-k.k) c.loop-k.at c.args.rooms.now c.loop-k.rooms c.loop-k.invariant

use Rattle.std.proofs.Common.{◌*◌, ◌≤◌, length, arith, ap, sym, subst, rules}
use Rattle.std.proofs.Math.Nat.{mul-le-mul_right}
use Rattle.bin_queues.specs.QueueParts.{BatchedFrame, batched}
use Rattle.tile_queues.specs.Owners.{AreHandedBack, AreTasksOf}
use Rattle.steal_pool.specs.Making.{HaveRoom}
use Rattle.steal_pool.proofs.Standing.{stand_at_end}
use Rattle.steal_pool.proofs.frame.draw_stolen.Goals as goal

pub most_owned-room-requires : goal.most_owned-room-requires
most_owned-room-requires g c = omega (arith, c.min-workers.ensures, c.requires.some, c.bins-bins.ensures.some)

pub draw_tasks-requires-clause-some : goal.draw_tasks-requires-clause-some
draw_tasks-requires-clause-some g c = omega (arith, c.min-workers.ensures, c.requires.some, c.bins-bins.ensures.some)

pub draw_tasks-requires-clause-few : goal.draw_tasks-requires-clause-few
draw_tasks-requires-clause-few g c =
    let bins = c.bins-bins.ensures in
    let count = c.in_ok-queues.ensures.tasks.tasks_are.count in
    let n = ap length c.as_slice-given.ensures.value in
    omega (arith, bins.value, bins.few, count, n, c.most_owned-room.ensures.few)

pub draw_tasks-requires-clause-small : goal.draw_tasks-requires-clause-small
draw_tasks-requires-clause-small g c =
    let bins = c.bins-bins.ensures in
    let count = c.in_ok-queues.ensures.tasks.tasks_are.count in
    let n = ap length c.as_slice-given.ensures.value in
    let most : c.min-workers.result ≤ 64 = omega (arith, c.min-workers.ensures, c.requires.most) in
    let product : c.min-workers.result * c.most_owned-room.result ≤ 64 * c.most_owned-room.result = mul-le-mul_right c.most_owned-room.result most in
    omega (arith, bins.value, bins.few, count, n, c.most_owned-room.ensures.few, product)

pub draw_tasks-requires-clause-room : goal.draw_tasks-requires-clause-room
draw_tasks-requires-clause-room g c =
    let here = subst (λ ts. HaveRoom c.min-workers.result c.most_owned-room.result ts) c.as_slice-given.ensures.value c.most_owned-room.ensures.each in
    search (rules, here)

pub draw_tasks-requires-clause-tasks : goal.draw_tasks-requires-clause-tasks
draw_tasks-requires-clause-tasks g c =
    let here = c.in_ok-queues.ensures.tasks in
    search (rules, here)

pub close-requires-clause-tasks : goal.close-requires-clause-tasks
close-requires-clause-tasks g c =
    let made = c.in_ok-queues in
    subst (λ (f : BatchedFrame). AreTasksOf made.queues f c.in_ok-drawn.drawn.items) (sym made.ensures.frame) c.in_ok-drawn.ensures.whole.tasks_are

pub returns-clause-standing : goal.returns-clause-standing
returns-clause-standing g c =
    let made = c.in_ok-queues in
    let frame = batched c.args.list.now.list c.args.cut.now c.args.batch c.args.cells.now in
    stand_at_end made.queues frame c.in_ok-drawn.drawn.items c.close.result.items c.requires.batch c.requires.whole c.in_ok-drawn.ensures.whole
    (subst (λ (f : BatchedFrame). AreHandedBack f c.in_ok-drawn.drawn.items c.close.result.items) made.ensures.frame c.close.ensures)

use Rattle.std.proofs.Common.{◌*◌, ◌≤◌, length, vec_items, arith, ap, sym, subst, rules}
use Rattle.std.proofs.Math.Nat.{mul-le-mul_right}
use Rattle.bin_queues.specs.QueueParts.{BatchedFrame}
use Rattle.tile_queues.specs.Shares.{AreWhole}
use Rattle.steal_pool.specs.Lists.{AreTold, frame_at, joined}
use Rattle.steal_pool.specs.Making.{HaveRoom}
use Rattle.steal_pool.proofs.Pooling.{bins_few, same_frame}
use Rattle.steal_pool.proofs.drain.drain_pool.Goals as goal

pub cut_at-cut-requires : goal.cut_at-cut-requires
cut_at-cut-requires g c = omega (arith, ap length c.as_slice-given.ensures.value, c.requires.tasks.some)

pub size_at-size-requires : goal.size_at-size-requires
size_at-size-requires g c = omega (arith, ap length c.as_slice-given.ensures.value, c.requires.tasks.some)

pub drain_tasks-requires-clause-few : goal.drain_tasks-requires-clause-few
drain_tasks-requires-clause-few g c =
    let few = bins_few (frame_at c.args.tasks.now.items) c.args.queues.now c.args.tasks.now.items c.as_slice-given.result.now c.cut_at-cut.result c.bins-bins.result c.requires.tasks c.as_slice-given.ensures.value c.cut_at-cut.ensures c.bins-bins.ensures.value c.bins-bins.ensures.few in
    let most = c.most_owned-room.ensures.few in
    let n = ap length c.as_slice-given.ensures.value in
    omega (arith, few, most, n)

pub drain_tasks-requires-clause-small : goal.drain_tasks-requires-clause-small
drain_tasks-requires-clause-small g c =
    let few = bins_few (frame_at c.args.tasks.now.items) c.args.queues.now c.args.tasks.now.items c.as_slice-given.result.now c.cut_at-cut.result c.bins-bins.result c.requires.tasks c.as_slice-given.ensures.value c.cut_at-cut.ensures c.bins-bins.ensures.value c.bins-bins.ensures.few in
    let most = c.most_owned-room.ensures.few in
    let n = ap length c.as_slice-given.ensures.value in
    let product : c.args.workers * c.most_owned-room.result ≤ 64 * c.most_owned-room.result = mul-le-mul_right c.most_owned-room.result c.requires.most in
    omega (arith, few, most, n, product)

pub drain_tasks-requires-clause-room : goal.drain_tasks-requires-clause-room
drain_tasks-requires-clause-room g c =
    let here = subst (λ ts. HaveRoom c.args.workers c.most_owned-room.result ts) c.as_slice-given.ensures.value c.most_owned-room.ensures.each in
    search (rules, here)

pub drain_tasks-requires-clause-tasks : goal.drain_tasks-requires-clause-tasks
drain_tasks-requires-clause-tasks g c =
    let e = same_frame (frame_at c.args.tasks.now.items) c.args.queues.now c.args.tasks.now.items c.as_slice-given.result.now c.args.list.now.list c.args.cells.now c.cut_at-cut.result c.size_at-size.result c.requires.tasks c.as_slice-given.ensures.value c.requires.list c.requires.cells c.cut_at-cut.ensures c.size_at-size.ensures in
    let here = subst (λ (f : BatchedFrame). AreTold c.args.queues.now f c.args.tasks.now.items) e c.requires.tasks in
    search (rules, here)

pub returns-clause-whole : goal.returns-clause-whole
returns-clause-whole g c =
    let e = same_frame (frame_at c.args.tasks.now.items) c.args.queues.now c.args.tasks.now.items c.as_slice-given.result.now c.args.list.now.list c.args.cells.now c.cut_at-cut.result c.size_at-size.result c.requires.tasks c.as_slice-given.ensures.value c.requires.list c.requires.cells c.cut_at-cut.ensures c.size_at-size.ensures in
    subst (λ (f : BatchedFrame). AreWhole c.args.queues.now f (joined vec_items c.in_ok-lists.lists.items)) (sym e) c.in_ok-lists.ensures.whole

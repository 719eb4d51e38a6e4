use Rattle.std.proofs.Common.{ap, rules, sym, subst}
use Rattle.bin_queues.specs.Frames.{over}
use Rattle.bin_queues.specs.QueueParts.{BatchedFrame}
use Rattle.steal_pool.specs.Lists.{AreTold}
use Rattle.steal_pool.proofs.Pooling.{frame_at_is}
use Rattle.steal_tests.proofs.tests.pool.drawn_by.Goals as goal

pub drain_pool-requires-clause-tasks : goal.drain_pool-requires-clause-tasks
drain_pool-requires-clause-tasks g c =
    let made = c.in_ok-cells in
    let told = made.ensures in
    let here = subst (λ (f : BatchedFrame). AreTold made.queues f made.tasks.items) (sym (frame_at_is (over c.args.frame.now c.in_ok-cells.cells) made.queues made.tasks.items told)) told in
    search (rules, here)

pub drain_pool-requires-clause-cells : goal.drain_pool-requires-clause-cells
drain_pool-requires-clause-cells g c =
    let made = c.in_ok-cells in
    let cells = ap (λ (f : BatchedFrame). f.cells) (frame_at_is (over c.args.frame.now c.in_ok-cells.cells) made.queues made.tasks.items made.ensures) in
    search (rules, cells)

pub drain_pool-requires-clause-list : goal.drain_pool-requires-clause-list
drain_pool-requires-clause-list g c =
    let made = c.in_ok-cells in
    let list = ap (λ (f : BatchedFrame). f.list) (frame_at_is (over c.args.frame.now c.in_ok-cells.cells) made.queues made.tasks.items made.ensures) in
    search (rules, list)

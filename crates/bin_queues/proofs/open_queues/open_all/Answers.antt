use Rattle.std.proofs.Common.{◌≤◌, ◌∙◌, arith, subst}
use Rattle.crossbeam_queue.specs.Passes.{ruled_capacity}
use Rattle.bin_queues.specs.Frames.{over}
use Rattle.bin_queues.specs.QueueParts.{batches_in}
use Rattle.bin_queues.proofs.Opening.{opened_more, room_more}
use Rattle.bin_queues.proofs.open_queues.open_all.Goals as goal

pub loop-bin-preserved : goal.loop-bin-preserved
loop-bin-preserved g c =
    let i = c.loop-bin.invariant in
    let o = c.in_ok-queue.ensures in
    let more = opened_more (λ q. q.table.shared.table_id) (over c.args.frame.now g.cells) c.args.number.now.table.shared.table_id c.loop-bin.bin
    c.loop-bin.queues.items c.loop-bin.passes.items c.loop-bin.intakes.items c.in_ok-queue.queue c.in_ok-queue.submits c.in_ok-queue.intake i.opened o.queue.0 o.pass.0 o.pass.1 o.intake in
    record {
      own = ((o.own.0.0 ∙ i.own.0.0, o.own.0.1 ∙ i.own.0.1), o.own.1 ∙ i.own.1);
      opened = rw (c.push_reserved.ensures.items, c.push_reserved-in-loop-bin.ensures.items, c.push_reserved-in-loop-bin-2.ensures.items) more;
      roomy = rw c.push_reserved.ensures.items (room_more (λ q. ruled_capacity q) (batches_in (over c.args.frame.now g.cells)) c.loop-bin.queues.items c.in_ok-queue.queue i.roomy (subst (λ n. n ≤ ruled_capacity c.in_ok-queue.queue) c.batches-most.ensures.value o.queue.1));
      room_of_queues = omega (arith, i.room_of_queues, c.push_reserved.ensures.capacity);
      room_of_passes = omega (arith, i.room_of_passes, c.push_reserved-in-loop-bin.ensures.capacity);
      room_of_intakes = omega (arith, i.room_of_intakes, c.push_reserved-in-loop-bin-2.ensures.capacity);
    }

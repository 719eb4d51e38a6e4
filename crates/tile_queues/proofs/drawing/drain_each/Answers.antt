use Rattle.std.proofs.Common.{rules}
use Rattle.bin_tasks.specs.Drains.{HasDrained}
use Rattle.tile_queues.specs.Shares.{MayDraw}
use Rattle.tile_queues.proofs.Changing.{all_parts, changed_parts, first_part, second_part}
use Rattle.tile_queues.proofs.drawing.drain_each.Goals as goal

pub drain_in_order-requires : goal.drain_in_order-requires
drain_in_order-requires g c =
    let cut = c.split_at_mut-before in
    (search rules, second_part (MayDraw c.args.drawing.now) c.args.tasks.now cut.result.0.now cut.result.1.now cut.ensures.value c.requires)

pub drain_in_order-requires-2 : goal.drain_in_order-requires-2
drain_in_order-requires-2 g c =
    let cut = c.split_at_mut-before in
    (search rules, first_part (MayDraw c.args.drawing.now) c.args.tasks.now cut.result.0.now cut.result.1.now cut.ensures.value c.requires)

pub returns-clause-may : goal.returns-clause-may
returns-clause-may g c = all_parts (MayDraw c.args.drawing.now) c.drain_in_order-2.new.tasks c.drain_in_order.new.tasks c.drain_in_order-2.ensures.may c.drain_in_order.ensures.may

pub returns-clause-drained : goal.returns-clause-drained
returns-clause-drained g c =
    let cut = c.split_at_mut-before in
    changed_parts HasDrained c.args.tasks.now cut.result.0.now cut.result.1.now c.drain_in_order-2.new.tasks c.drain_in_order.new.tasks cut.ensures.value c.drain_in_order-2.ensures.drained c.drain_in_order.ensures.drained

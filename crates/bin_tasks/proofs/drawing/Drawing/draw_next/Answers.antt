use Rattle.std.proofs.Common.{arith, ap, sym, ◌∙◌}
use Rattle.bin_queues.specs.QueueParts.{BatchedFrame}
use Rattle.bin_queues.specs.Tasks.{Tasking}
use Rattle.bin_queues.proofs.Intaking.{next_places}
use Rattle.bin_tasks.proofs.TasksOn.{taken_drawn}
use Rattle.bin_tasks.proofs.drawing.Drawing.draw_next.Goals as goal

pub draw_part-requires-clause-places : goal.draw_part-requires-clause-places
draw_part-requires-clause-places g c κs within =
    let t = c.args.task.now.intake in
    let frame = c.args.self.now.frame in
    let pop = c.in-Some.ensures in
    let some = c.bin-bin.ensures.batched.some in
    let cut = sym (ap (λ (w : Tasking). w.of.frame.cut) pop.0 ∙ ap (λ (f : BatchedFrame). f.cut) c.requires.frame_is) in
    next_places t c.next.new.intake c.in-Some.part c.indices.result.now frame.list.now.list frame.cut.now c.batches-batch.result c.place-from.result c.place-to.result c.bin-bin.result
    (omega (arith, some)) pop.0 pop.1 pop.2 c.indices.ensures (ap (λ (f : BatchedFrame). f.list) c.requires.frame_is) cut c.batches-batch.ensures.value c.place-from.ensures c.place-to.ensures c.bin-bin.ensures.value

pub draw_part-requires-clause-taken : goal.draw_part-requires-clause-taken
draw_part-requires-clause-taken g c κs within =
    let frame = c.args.self.now.frame in
    let pop = c.in-Some.ensures in
    let cut = sym (ap (λ (w : Tasking). w.of.frame.cut) pop.0 ∙ ap (λ (f : BatchedFrame). f.cut) c.requires.frame_is) in
    taken_drawn c.args.task.now.intake c.next.new.intake frame.list.now.list frame.cut.now c.batches-batch.result c.place-from.result c.taken-taken.result c.bin-bin.result
    pop.0 (ap (λ (f : BatchedFrame). f.list) c.requires.frame_is) cut c.batches-batch.ensures.value c.place-from.ensures c.bin-bin.ensures.value c.taken-taken.ensures.sum

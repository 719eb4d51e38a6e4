use Rattle.std.proofs.Common.{◌≡◌, List, ap, ◌∙◌, subst}
use Rattle.atomic_table.specs.Seated.{TableId}
use Rattle.tile_queues.specs.Owners.{AreTasksOf}
use Rattle.bin_queues.specs.Frames.{over}
use Rattle.bin_queues.specs.QueueParts.{BatchedFrame}
use Rattle.tile_queues.proofs.Ending.{fresh_cells}
use Rattle.tile_queues.proofs.Keeping.{first_are}
use Rattle.steal_tests.proofs.tests.queues.open.Goals as goal

pub returns-clause-frame : goal.returns-clause-frame
returns-clause-frame g c =
    c.in_ok-queues.ensures.frame.0 ∙ ap (λ (cells : List TableId). over c.args.frame.now cells) (fresh_cells c.in_ok-cells.cells c.args.frame.now.list.now.list c.in_ok-cells.writers.items c.in_ok-cells.ensures.writers)

pub returns-clause-tasks : goal.returns-clause-tasks
returns-clause-tasks g c =
    let framed : c.in_ok-queues.submitter.frame ≡ over c.args.frame.now c.in_ok-cells.cells = c.in_ok-queues.ensures.frame.0 ∙ ap (λ (cells : List TableId). over c.args.frame.now cells) (fresh_cells c.in_ok-cells.cells c.args.frame.now.list.now.list c.in_ok-cells.writers.items c.in_ok-cells.ensures.writers) in
    subst (λ (f : BatchedFrame). AreTasksOf c.in_ok-queues.queues f c.in_ok-queues.tasks.items) framed (first_are c.in_ok-queues.queues c.in_ok-queues.submitter.frame c.in_ok-queues.tasks.items c.in_ok-queues.ensures.tasks)

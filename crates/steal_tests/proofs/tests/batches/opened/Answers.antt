use Rattle.std.proofs.Common.{◌≡◌, ◌≤◌, List, length, arith, rules, ap, sym, ◌∙◌, subst}
use Rattle.std.proofs.lemmas.List.{with_items_is}
use Rattle.atomic_table.specs.Seated.{TableId}
use Rattle.binning.specs.Cut.{bin_count_of}
use Rattle.bin_queues.specs.Frames.{over}
use Rattle.bin_queues.specs.QueueParts.{BatchedFrame, batches_in}
use Rattle.bin_queues.specs.Tasks.{AreFirstTasks, Submitting, Tasking}
use Rattle.bin_queues.proofs.GoingOn.{submitter_on}
use Rattle.tile_queues.proofs.Ending.{fresh_cells}
use Rattle.steal_pool.specs.Lists.{AreTold}
use Rattle.steal_pool.proofs.Starting.{are_tasks_of, framed_is}
use Rattle.steal_pool.proofs.Told.{all_told_of}
use Rattle.steal_tests.proofs.tests.batches.opened.Goals as goal

pub submit_all-requires-clause-frame : goal.submit_all-requires-clause-frame
submit_all-requires-clause-frame g c =
    let made = c.in_ok-queues in
    let cells = c.in_ok-cells in
    let framed = framed_is c.args.frame.now cells.cells cells.writers.items made.submitter cells.ensures.writers made.ensures.frame.0 in
    search (rules, framed)

pub tell_all-requires-clause-submitter : goal.tell_all-requires-clause-submitter
tell_all-requires-clause-submitter g c = let made = c.in_ok-queues in submitter_on made.queues made.submitter c.submit_all.new.submitter (batches_in made.submitter.frame) c.in_ok-submit_all.ensures made.ensures.submitter

pub tell_all-requires-clause-tasks : goal.tell_all-requires-clause-tasks
tell_all-requires-clause-tasks g c = let made = c.in_ok-queues in are_tasks_of made.queues made.submitter.frame made.tasks.items c.as_mut_slice.result.now made.ensures.tasks c.as_mut_slice.ensures.value

pub returns : goal.returns
returns g c =
    let made = c.in_ok-queues in
    let cells = c.in_ok-cells in
    let frame = over c.args.frame.now cells.cells in
    let framed : made.submitter.frame ≡ frame = made.ensures.frame.0 ∙ ap (λ (ids : List TableId). over c.args.frame.now ids) (fresh_cells cells.cells c.args.frame.now.list.now.list cells.writers.items cells.ensures.writers) in
    let new = c.tell_all.new.tasks in
    let same : length new ≡ made.tasks.len = search rules in
    let is = with_items_is made.tasks new same in
    let first = subst (λ (f : BatchedFrame). AreFirstTasks made.queues f c.as_mut_slice.result.now) framed (subst (λ (ts : List Tasking). AreFirstTasks made.queues made.submitter.frame ts) (sym c.as_mut_slice.ensures.value) made.ensures.tasks) in
    let counted = ap (λ (s : Submitting). s.batches) c.in_ok-submit_all.ensures in
    let all : c.submit_all.new.submitter.batches ≡ batches_in frame = counted ∙ ap batches_in framed in
    let some : 1 ≤ bin_count_of frame.cut = omega (arith, c.bins-bins.ensures.some, c.bins-bins.ensures.value) in
    subst (λ (ts : List Tasking). AreTold made.queues frame ts) (sym is) (all_told_of made.queues frame c.submit_all.new.submitter.batches c.as_mut_slice.result.now new first all some c.tell_all.ensures)

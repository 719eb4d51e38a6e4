use Rattle.std.proofs.Common.{◌≡◌, ◌≤◌, List, length, map, arith, refl, rules, ap, sym, ◌∙◌, subst}
use Rattle.binning.specs.Cut.{bin_count_of}
use Rattle.crossbeam_utils.specs.Seq.{cell_view}
use Rattle.cull_base.specs.Screen.{Dimensions, IsSize}
use Rattle.bin_queues.specs.NumberRule.{publisher}
use Rattle.bin_queues.specs.declared.number_rule.NumberView.{NumberView}
use Rattle.bin_queues.specs.Tasks.{AreFirstTasks, QueuesOf, Submitting}
use Rattle.bin_queues.specs.Frames.{over}
use Rattle.bin_queues.specs.QueueParts.{BatchedFrame, IsBatched, batches_in}
use Rattle.bin_queues.specs.Submitters.{AreOpenedTo, HavePushed}
use Rattle.bin_queues.proofs.Opening.{opened_pushed, opened_tasks}
use Rattle.bin_queues.proofs.Submitting.{frame_kept}
use Rattle.bin_queues.proofs.queues.PartQueues.open.Goals as goal

pub first-sender-requires-clause-batched : goal.first-sender-requires-clause-batched
first-sender-requires-clause-batched g c =
    let frame = over c.args.frame.now g.cells in
    let valid = c.columns-columns.ensures.valid in
    let pushed = opened_pushed frame c.in_ok-number.number.table.shared.table_id (bin_count_of c.args.frame.now.cut.now) _ c.in_ok-queues.passes.items c.in_ok-queues.intakes.items refl c.in_ok-queues.ensures.opened in
    let kept = frame_kept frame 0 0 c.in_ok-queues.passes.items valid pushed in
    let len = c.len-len.ensures in
    let whole : IsBatched frame = record {
      sized = subst (λ (s : Dimensions). IsSize s.width s.height) c.size.ensures c.width-width.ensures.valid;
      is_cut = valid;
      some = c.args.frame.now.some;
      few = c.args.frame.now.few;
      short = omega (arith, len.value, len.within, len.small);
    } in
    subst IsBatched (sym kept) whole

pub first-sender-requires-clause-pushed : goal.first-sender-requires-clause-pushed
first-sender-requires-clause-pushed g c =
    let frame = over c.args.frame.now g.cells in
    let ps = c.in_ok-queues.passes.items in
    let pushed = opened_pushed frame c.in_ok-number.number.table.shared.table_id (bin_count_of c.args.frame.now.cut.now) _ ps c.in_ok-queues.intakes.items refl c.in_ok-queues.ensures.opened in
    let kept = frame_kept frame 0 0 ps c.columns-columns.ensures.valid pushed in
    subst (λ (f : BatchedFrame). HavePushed f 0 0 ps) (sym kept) pushed

pub returns-clause-sender : goal.returns-clause-sender
returns-clause-sender g c =
    let frame = over c.args.frame.now g.cells in
    let opened = c.in_ok-queues.ensures.opened in
    let pushed = opened_pushed frame c.in_ok-number.number.table.shared.table_id (bin_count_of c.args.frame.now.cut.now) _ c.in_ok-queues.passes.items c.in_ok-queues.intakes.items refl opened in
    let kept = frame_kept frame 0 0 c.in_ok-queues.passes.items c.columns-columns.ensures.valid pushed in
    let own : c.in_ok-number.pass.table_id ≡ c.in_ok-number.number.table.shared.table_id = search rules in
    let first = c.first-sender.ensures in
    let queues = c.of.ensures in
    let framed : c.first-sender.result.frame ≡ frame = ap (λ (s : Submitting). s.frame) first ∙ kept in
    let counted : batches_in c.first-sender.result.frame ≡ c.of.result.room = ap batches_in framed ∙ sym (ap (λ (q : QueuesOf). q.room) queues ∙ c.batches-most.ensures.value) in
    record {
      queues_are = ap (λ (s : Submitting). s.queues) first ∙ opened.queues ∙ sym (ap (λ (q : QueuesOf). q.queues) queues);
      number = ap (λ (s : Submitting). s.number) first ∙ c.open_all.ensures.own.0.0 ∙ own ∙ sym (ap (λ (q : QueuesOf). q.number) queues);
      room = subst (λ n. batches_in c.first-sender.result.frame ≤ n) counted (Rattle.std.proofs.Common.le_refl (batches_in c.first-sender.result.frame));
    }

pub returns-clause-frame : goal.returns-clause-frame
returns-clause-frame g c =
    let frame = over c.args.frame.now g.cells in
    let pushed = opened_pushed frame c.in_ok-number.number.table.shared.table_id (bin_count_of c.args.frame.now.cut.now) _ c.in_ok-queues.passes.items c.in_ok-queues.intakes.items refl c.in_ok-queues.ensures.opened in
    let kept = frame_kept frame 0 0 c.in_ok-queues.passes.items c.columns-columns.ensures.valid pushed in
    let first = c.first-sender.ensures in
    let none : cell_view c.in_ok-number.pass ≡ publisher 0 = search rules in (
      ap (λ (s : Submitting). s.frame) first ∙ kept,
      ap (λ (s : Submitting). s.batches) first ∙ ap (λ (v : NumberView). v.number) (c.open_all.ensures.own.1 ∙ none),
    )

pub returns-clause-intakes : goal.returns-clause-intakes
returns-clause-intakes g c =
    let frame = over c.args.frame.now g.cells in
    let opened = c.in_ok-queues.ensures.opened in
    let ps = c.in_ok-queues.passes.items in
    let ts = c.in_ok-queues.intakes.items in
    let n = bin_count_of c.args.frame.now.cut.now in
    let pushed = opened_pushed frame c.in_ok-number.number.table.shared.table_id n _ ps ts refl opened in
    let kept = frame_kept frame 0 0 ps c.columns-columns.ensures.valid pushed in
    let queues = c.of.ensures in
    let at = subst (λ (q : QueuesOf). AreOpenedTo frame q.number n q.queues ps ts) (sym queues) opened in
    let framed : c.first-sender.result.frame ≡ frame = ap (λ (s : Submitting). s.frame) c.first-sender.ensures ∙ kept in
    subst (λ (f : BatchedFrame). AreFirstTasks c.of.result f ts) (sym framed) (opened_tasks c.of.result frame n ps ts refl at)

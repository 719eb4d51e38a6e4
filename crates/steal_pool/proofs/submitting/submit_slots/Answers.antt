use Rattle.std.proofs.Common.{◌≡◌, ◌+◌, ℕ, vec_items, arith, rules, ap, sym, ◌∙◌, subst}
use Rattle.cull_base.proofs.Lists.{turn}
use Rattle.bin_queues.specs.Frames.{over}
use Rattle.bin_queues.specs.QueueParts.{BatchedFrame, batches_in}
use Rattle.bin_queues.specs.Tasks.{Submitting}
use Rattle.bin_queues.proofs.GoingOn.{submitter_on}
use Rattle.steal_pool.specs.Binned.{IsBinned}
use Rattle.steal_pool.proofs.submitting.submit_slots.Goals as goal

pub loop-slot-init : goal.loop-slot-init
loop-slot-init g c = (tt, tt, search rules, search rules, (λ k. record c.args.submitter.now { batches = c.requires.none k }), c.requires.queues)

pub submit_slot-requires-clause-queues : goal.submit_slot-requires-clause-queues
submit_slot-requires-clause-queues g c =
    let on = c.loop-slot.invariant.5 in
    search (rules, on)

pub submit_slot-requires-clause-frame : goal.submit_slot-requires-clause-frame
submit_slot-requires-clause-frame g c =
    let framed = subst (λ (f : BatchedFrame). f ≡ over c.args.frame.now f.cells) (sym (ap (λ (s : Submitting). s.frame) c.loop-slot.invariant.4)) c.requires.frame in
    search (rules, framed)

pub submit_slot-requires-clause-short : goal.submit_slot-requires-clause-short
submit_slot-requires-clause-short g c =
    let i = c.loop-slot.invariant in
    let t = turn c.args.slots.items c.loop-slot.done c.in-Some.slot _ (sym i.2 ∙ c.in-Some.ensures.steps.0) in
    let counted = ap (λ (s : Submitting). s.batches) i.4 in
    let all : batches_in c.loop-slot.submitter.frame ≡ batches_in c.args.submitter.now.frame = ap (λ (s : Submitting). batches_in s.frame) i.4 in
    omega (arith, t.2, counted, all, c.requires.slots)

pub submit_slot-requires-clause-binned : goal.submit_slot-requires-clause-binned
submit_slot-requires-clause-binned g c =
    let i = c.loop-slot.invariant in
    let x = c.in-Some.slot in
    let frame = c.args.frame.now in
    let t = turn c.args.slots.items c.loop-slot.done x _ (sym i.2 ∙ c.in-Some.ensures.steps.0) in
    let counted = ap (λ (s : Submitting). s.batches) i.4 in
    subst (λ (n : ℕ). IsBinned vec_items frame n x) (sym counted)
    (subst (λ y. IsBinned vec_items frame c.loop-slot.done y) (sym t.1) (c.requires.binned c.loop-slot.done x t.2))

pub loop-slot-preserved : goal.loop-slot-preserved
loop-slot-preserved g c =
    let i = c.loop-slot.invariant in
    let s = c.in-Some.ensures.steps in
    let t = turn c.args.slots.items c.loop-slot.done c.in-Some.slot _ (sym i.2 ∙ s.0) in
    let more = c.in_ok-submit_slot.ensures in (
      tt,
      tt,
      t.0,
      omega (arith, i.3, s.1),
      more ∙ ap (λ (s : Submitting). record s { batches = s.batches + 1 }) i.4,
      submitter_on c.args.queues.now c.loop-slot.submitter c.submit_slot.new.submitter (c.loop-slot.submitter.batches + 1) more i.5,
    )

pub returns : goal.returns
returns g c =
    let i = c.loop-slot.invariant in
    let none = c.in-None.ensures.steps.0 in
    let last : c.loop-slot.done ≡ batches_in c.args.submitter.now.frame = omega (arith, i.3, none, c.requires.slots) in
    i.4 ∙ (λ k. record c.args.submitter.now { batches = last k })

use Rattle.std.proofs.Common.{◌≡◌, ◌+◌, arith, rules, ap, sym, subst, ◌∙◌}
use Rattle.bin_queues.specs.Frames.{over}
use Rattle.bin_queues.specs.QueueParts.{BatchedFrame, batches_in}
use Rattle.bin_queues.specs.Tasks.{Submitting}
use Rattle.bin_queues.proofs.GoingOn.{submitter_on}
use Rattle.steal_tests.proofs.tests.batches.submit_all.Goals as goal

pub loop-init : goal.loop-init
loop-init g c = λ i. record c.args.submitter.now { batches = c.requires.none i }

pub submit_next-requires-clause-queues : goal.submit_next-requires-clause-queues
submit_next-requires-clause-queues g c =
    let on = submitter_on c.args.queues.now c.args.submitter.now c.loop.submitter c.loop.counter c.loop.invariant c.requires.queues in
    search (rules, on)

pub submit_next-requires-clause-frame : goal.submit_next-requires-clause-frame
submit_next-requires-clause-frame g c =
    let framed = subst (λ (f : BatchedFrame). f ≡ over c.args.frame.now f.cells) (sym (ap (λ (s : Submitting). s.frame) c.loop.invariant)) c.requires.frame in
    search (rules, framed)

pub submit_next-requires-clause-short : goal.submit_next-requires-clause-short
submit_next-requires-clause-short g c =
    let counted = ap (λ (s : Submitting). s.batches) c.loop.invariant in
    let all : batches_in c.loop.submitter.frame ≡ batches_in c.args.submitter.now.frame = ap (λ (s : Submitting). batches_in s.frame) c.loop.invariant in
    let whole : batches_in c.args.submitter.now.frame ≡ c.batches-count.result = ap batches_in c.requires.frame ∙ sym c.batches-count.ensures.value in
    omega (arith, c.loop-test.true, counted, all, whole)

pub loop-preserved : goal.loop-preserved
loop-preserved g c = c.in_ok-submit_next.ensures ∙ ap (λ (s : Submitting). record s { batches = s.batches + 1 }) c.loop.invariant

pub returns : goal.returns
returns g c =
    let whole : batches_in c.args.submitter.now.frame ≡ c.batches-count.result = ap batches_in c.requires.frame ∙ sym c.batches-count.ensures.value in
    let last : c.loop.counter ≡ batches_in c.args.submitter.now.frame = omega (arith, c.loop-test.false, c.loop.auto.counter-end, whole) in
    c.loop.invariant ∙ (λ i. record c.args.submitter.now { batches = last i })

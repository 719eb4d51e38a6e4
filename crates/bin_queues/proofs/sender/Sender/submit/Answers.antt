use Rattle.std.proofs.Common.{◌<◌, ◌+◌, ap, sym, ◌∙◌, subst}
use Rattle.bin_queues.specs.QueueParts.{BatchedFrame, batches_in}
use Rattle.bin_queues.specs.Submitters.{HavePushed, frame_of}
use Rattle.bin_queues.specs.Tasks.{Submitting}
use Rattle.bin_queues.proofs.Submitting.{submitted, submitting_on}
use Rattle.bin_queues.proofs.sender.Sender.submit.Goals as goal

pub invariant_of-self : goal.invariant_of-self
invariant_of-self g c =
    let s = c.self.inside in
    let ps = c.push_all.new.passes.items in
    let counted = sym (ap (λ (w : Rattle.bin_queues.specs.declared.number_rule.NumberView.NumberView). w.number) c.self.invariant.published) in
    let short = subst (λ (w : Submitting). w.batches < batches_in w.frame) (sym c.self.view_is) c.requires.short in
    let pushed = subst (λ (f : BatchedFrame). HavePushed f (s.batches + 1) 0 ps) c.push_all.ensures.frame c.push_all.ensures.pushed in
    submitted s.batches s.passes.items ps s.number c.publish.new.pass c.self.invariant (subst (λ n. n < batches_in (frame_of s.passes.items)) (sym counted) short) pushed c.publish.ensures.published

pub returns : goal.returns
returns g c =
    let s = c.self.inside in
    let ps = c.push_all.new.passes.items in
    let pushed = subst (λ (f : BatchedFrame). HavePushed f (s.batches + 1) 0 ps) c.push_all.ensures.frame c.push_all.ensures.pushed in
    submitting_on s.batches s.passes.items ps s.number c.publish.new.pass c.self.invariant pushed c.push_all.ensures.same c.publish.ensures.own.0 c.publish.ensures.published
    ∙ ap (λ (w : Submitting). record w { batches = w.batches + 1 }) c.self.view_is

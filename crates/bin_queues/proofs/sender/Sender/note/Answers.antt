use Rattle.std.proofs.Common.{ℕ, ◌<◌, List, length, arith, sym, ◌∙◌, subst, ap}
use Rattle.atomic_table.specs.Seated.{TableId}
use Rattle.std.proofs.lemmas.List.{length-map}
use Rattle.std.proofs.lemmas.Option.{slice_get_within}
use Rattle.bin_queues.specs.declared.number_rule.NumberView.{NumberView}
use Rattle.bin_queues.specs.declared.queue_rule.View.{View}
use Rattle.bin_queues.specs.Intakes.{QueueToken}
use Rattle.bin_queues.specs.QueueParts.{bin_of_frame}
use Rattle.bin_queues.specs.QueueRule.{note}
use Rattle.bin_queues.specs.Submitters.{frame_of, queues_of}
use Rattle.bin_queues.specs.Tasks.{IsAt, Submitting}
use Rattle.bin_queues.proofs.Submitting.{may_tell, told_on}
use Rattle.bin_queues.proofs.sender.Sender.note.Goals as goal

-- a place of which there is a queue has a pass
pass_within : (ps : List QueueToken) (bin : ℕ) (q : TableId) → IsAt (queues_of ps) bin q → bin < length ps
pass_within ps bin q there =
    let within = slice_get_within (queues_of ps) bin q there in
    let whole = length-map ps (λ (p : QueueToken). p.table_id) in
    omega (arith, within, whole)

pub invariant_of-self : goal.invariant_of-self
invariant_of-self c =
    let s = c.self.inside in
    let there = subst (λ (w : Submitting). IsAt w.queues c.args.bin c.args.queue.now.table.shared.table_id) (sym c.self.view_is) c.requires in
    (told_on s.batches c.args.bin s.passes.items s.number c.index_mut.result.now c.tell.new.pass c.self.invariant (pass_within s.passes.items c.args.bin c.args.queue.now.table.shared.table_id there) c.index_mut.ensures.value c.tell.ensures.own.0 c.tell.ensures.same).0

pub returns-clause-same : goal.returns-clause-same
returns-clause-same c =
    let s = c.self.inside in
    let there = subst (λ (w : Submitting). IsAt w.queues c.args.bin c.args.queue.now.table.shared.table_id) (sym c.self.view_is) c.requires in
    (told_on s.batches c.args.bin s.passes.items s.number c.index_mut.result.now c.tell.new.pass c.self.invariant (pass_within s.passes.items c.args.bin c.args.queue.now.table.shared.table_id there) c.index_mut.ensures.value c.tell.ensures.own.0 c.tell.ensures.same).1 ∙ c.self.view_is

pub returns-clause-told : goal.returns-clause-told
returns-clause-told c =
    let s = c.self.inside in
    let there = subst (λ (w : Submitting). IsAt w.queues c.args.bin c.args.queue.now.table.shared.table_id) (sym c.self.view_is) c.requires in
    let tells = may_tell s.batches c.args.bin s.passes.items s.number c.index_mut.result.now c.self.invariant (pass_within s.passes.items c.args.bin c.args.queue.now.table.shared.table_id there) c.index_mut.ensures.value in
    let counted = sym (ap (λ (v : NumberView). v.number) c.self.invariant.published) in
    c.tell.ensures.told ∙ ap (λ (v : View). note v.of v.number) tells.submits ∙ ap (note (bin_of_frame (frame_of s.passes.items) c.args.bin)) counted ∙ ap (λ (w : Submitting). note (bin_of_frame w.frame c.args.bin) w.batches) c.self.view_is

use Rattle.std.proofs.Common.{◌+◌, ◌<◌, length, arith, ap, sym, ◌∙◌, subst}
use Rattle.bin_queues.specs.Intakes.{IsIntake, tasking}
use Rattle.bin_queues.specs.QueueParts.{batches_in, nth_part}
use Rattle.bin_queues.specs.Tasks.{Tasking, after_part}
use Rattle.bin_queues.proofs.Intaking.{TakesNext, takes_next}
use Rattle.bin_queues.proofs.intake.Intake.next.Given as given
use Rattle.bin_queues.proofs.intake.Intake.next.Goals as goal
use Rattle.bin_queues.proofs.intake.Intake.next.Goals.{In_ok-part}

-- what the pop tells of the task
taken : (g : given.Over) (c : In_ok-part g) → let s = c.self.inside in TakesNext s.cut s.size s.bin s.batches s.taken s.pass c.pop.new.pass s.number c.in_ok-part.part
taken g c =
    let s = c.self.inside in
    takes_next s.cut s.size s.bin s.batches s.taken s.pass c.pop.new.pass s.number c.in_ok-part.part c.self.invariant c.in_ok-part.ensures.own c.in_ok-part.ensures.popped

pub overflow_cast-self : goal.overflow_cast-self
overflow_cast-self g c = let t = taken g (goal.at.overflow_cast-self g c).In_ok-part in let same = ap length c.indices.ensures in omega (arith, t.within, same)

pub overflow_add-self-2 : goal.overflow_add-self-2
overflow_add-self-2 g c = let t = taken g (goal.at.overflow_add-self-2 g c).In_ok-part in let same = ap length c.indices.ensures in omega (arith, t.within, same)

pub invariant_of-self-2 : goal.invariant_of-self-2
invariant_of-self-2 g c =
    let s = c.self.inside in
    subst (λ k. IsIntake s.cut s.size s.bin (s.batches + 1) (s.taken + k) c.pop.new.pass s.number) (sym (ap length c.indices.ensures)) (taken g (goal.at.invariant_of-self-2 g c).In_ok-part).intake

pub returns : goal.returns
returns g c =
    let s = c.self.inside in
    let t = taken g (goal.at.returns g c).In_ok-part in
    let same = ap length c.indices.ensures in (
      ap (λ k. tasking (s.taken + k) c.pop.new.pass s.number) same ∙ t.after ∙ ap after_part c.self.view_is,
      t.is ∙ ap (λ (w : Tasking). nth_part w.of w.batches) c.self.view_is,
      subst (λ (w : Tasking). w.batches < batches_in w.of.frame) c.self.view_is t.short,
    )

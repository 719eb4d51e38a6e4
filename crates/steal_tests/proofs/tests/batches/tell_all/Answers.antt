use Rattle.std.proofs.Common.{arith, get_or, refl, sym, subst, ◌∙◌}
use Rattle.std.proofs.lemmas.List.{get_or_default}
use Rattle.bin_queues.specs.Tasks.{IsSubmitterOf, IsTaskOf, Submitting}
use Rattle.tile_queues.proofs.Changing.{turned}
use Rattle.tile_queues.proofs.Turning.{none_turned, turned_more}
use Rattle.steal_pool.specs.Telling.{IsToldMore}
use Rattle.steal_pool.proofs.Told.{told_task}
use Rattle.steal_tests.proofs.tests.batches.tell_all.Goals as goal

pub loop-j-init : goal.loop-j-init
loop-j-init g c = record {
  same = refl;
  told = none_turned (IsTaskOf c.args.queues.now) (IsToldMore c.args.submitter.now.batches) c.args.tasks.now c.requires.tasks;
}

pub tell-requires-clause-submitter : goal.tell-requires-clause-submitter
tell-requires-clause-submitter g c = subst (IsSubmitterOf c.args.queues.now) (sym c.loop-j.invariant.same) c.requires.submitter

pub loop-j-preserved : goal.loop-j-preserved
loop-j-preserved g c =
    let xs = c.loop-j.tasks in
    let j = c.loop-j.j in
    let r = c.index-tasks-j.result in
    let task = c.tell.new.task in
    let told = c.tell.ensures.told in
    record {
      same = c.tell.ensures.same ∙ c.loop-j.invariant.same;
      told = turned_more (IsTaskOf c.args.queues.now) (IsToldMore c.args.submitter.now.batches) c.args.tasks.now xs j task c.loop-j.invariant.told (omega arith)
          (told_task c.args.queues.now (get_or xs j r) task c.loop-j.submitter.batches told (c.loop-j.invariant.told.all j r (omega arith)))
          (λ d. subst (λ (s : Submitting). IsToldMore s.batches (get_or xs j d) task) c.loop-j.invariant.same (subst (λ x. IsToldMore c.loop-j.submitter.batches x task) (get_or_default xs j r d (omega arith)) told));
    }

pub returns : goal.returns
returns g c = turned (IsTaskOf c.args.queues.now) (IsToldMore c.args.submitter.now.batches) c.args.tasks.now c.loop-j.tasks c.loop-j.j (omega arith) c.loop-j.invariant.told

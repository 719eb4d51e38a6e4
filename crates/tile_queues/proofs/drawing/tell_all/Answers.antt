use Rattle.std.proofs.Common.{All, arith, get_or, refl, subst, ◌∙◌}
use Rattle.std.proofs.lemmas.List.{get_or_default}
use Rattle.bin_queues.specs.Tasks.{Submitting}
use Rattle.bin_tasks.specs.Drains.{WasTold}
use Rattle.tile_queues.specs.Shares.{AreChanged, MayDraw}
use Rattle.tile_queues.proofs.Turning.{none_turned, turned_more}
use Rattle.tile_queues.proofs.drawing.tell_all.Goals as goal

pub loop-w-init : goal.loop-w-init
loop-w-init g c = record {
  same = refl;
  told = none_turned (λ s. All (MayDraw c.args.drawing.now) s.tasks.items) (λ a b. AreChanged (WasTold c.args.sender.now.batches) a.tasks.items b.tasks.items) c.args.shares.now c.requires.shares;
}

pub loop-w-preserved : goal.loop-w-preserved
loop-w-preserved g c =
    let xs = c.loop-w.shares in
    let own = c.tell_worker.new.own in
    record {
      same = c.tell_worker.ensures.same ∙ c.loop-w.invariant.same;
      told = turned_more (λ s. All (MayDraw c.args.drawing.now) s.tasks.items) (λ a b. AreChanged (WasTold c.args.sender.now.batches) a.tasks.items b.tasks.items) c.args.shares.now xs c.loop-w.w own c.loop-w.invariant.told (omega arith) c.tell_worker.ensures.may
          (λ d. subst (λ (s : Submitting). AreChanged (WasTold s.batches) (get_or xs c.loop-w.w d).tasks.items own.tasks.items) c.loop-w.invariant.same (subst (λ x. AreChanged (WasTold c.loop-w.sender.batches) x.tasks.items own.tasks.items) (get_or_default xs c.loop-w.w _ d (omega arith)) c.tell_worker.ensures.told));
    }

pub returns-clause-told : goal.returns-clause-told
returns-clause-told g c = record { count = c.loop-w.invariant.told.count; each = λ w s lt. c.loop-w.invariant.told.done w s (omega arith) }

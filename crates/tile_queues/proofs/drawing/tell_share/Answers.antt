use Rattle.std.proofs.Common.{arith, get_or, refl, ap, subst, ◌∙◌}
use Rattle.std.proofs.lemmas.List.{get_or_default}
use Rattle.bin_queues.specs.Tasks.{Submitting}
use Rattle.bin_tasks.specs.Drains.{WasTold}
use Rattle.tile_queues.specs.Shares.{MayDraw}
use Rattle.tile_queues.proofs.Changing.{turned}
use Rattle.tile_queues.proofs.Turning.{none_turned, turned_more}
use Rattle.tile_queues.proofs.drawing.tell_share.Goals as goal

pub loop-j-init : goal.loop-j-init
loop-j-init g c = record {
  same = refl;
  told = none_turned (MayDraw c.args.drawing.now) (WasTold c.args.sender.now.batches) c.args.tasks.now c.requires.tasks;
}

pub tell-requires-clause-frame : goal.tell-requires-clause-frame
tell-requires-clause-frame g c κs within = ap (λ (s : Submitting). s.frame) c.loop-j.invariant.same ∙ c.requires.frame

pub loop-j-preserved : goal.loop-j-preserved
loop-j-preserved g c =
    let task = c.tell.new.self in
    record {
      same = c.tell.ensures.same ∙ c.loop-j.invariant.same;
      told = turned_more (MayDraw c.args.drawing.now) (WasTold c.args.sender.now.batches) c.args.tasks.now c.loop-j.tasks c.loop-j.j task c.loop-j.invariant.told (omega arith) c.tell.ensures.may
          (λ d. subst (λ (s : Submitting). WasTold s.batches (get_or c.loop-j.tasks c.loop-j.j d) task) c.loop-j.invariant.same (subst (λ x. WasTold c.loop-j.sender.batches x task) (get_or_default c.loop-j.tasks c.loop-j.j _ d (omega arith)) c.tell.ensures.told));
    }

pub returns-clause-told : goal.returns-clause-told
returns-clause-told g c = turned (MayDraw c.args.drawing.now) (WasTold c.args.sender.now.batches) c.args.tasks.now c.loop-j.tasks c.loop-j.j (omega arith) c.loop-j.invariant.told

use Rattle.std.proofs.Common.{◌∷◌, [], List, length, get_or, arith, sym, subst, ap, ◌∙◌}
use Rattle.std.proofs.lemmas.List.{length-append}
use Rattle.masked_update.specs.Canvas.{CanvasOf}
use Rattle.seats.proofs.First.{there_at}
use Rattle.cull_base.proofs.Lists.{turn}
use Rattle.bin_tiles.specs.Bins.{IsBinAt}
use Rattle.bin_tiles.specs.Plain.{StandsPlain}
use Rattle.bin_queues.specs.Frames.{over}
use Rattle.plain_turns.specs.Waiting.{IsWaitingTask}
use Rattle.bin_tiles.proofs.Lists.{pushed_at}
use Rattle.plain_turns.proofs.finishing.finish_all.Goals as goal

pub finish-requires-clause-there : goal.finish-requires-clause-there
finish-requires-clause-there g c κs within =
    let i = c.loop-slot.invariant in
    let t = turn c.args.slots.items c.loop-slot.bin c.in-Some.slot _ (sym i.2 ∙ c.in-Some.ensures.steps.0) in
    there_at (IsWaitingTask c.args.drawing.now.queues.now (over c.args.drawing.now.frame [])) c.args.slots.items c.loop-slot.bin c.in-Some.slot t.1 t.2 c.requires.slots.seated

pub loop-slot-preserved : goal.loop-slot-preserved
loop-slot-preserved g c =
    let i = c.loop-slot.invariant in
    let s = c.in-Some.ensures.steps in
    let l = c.args.drawing.now.frame.list.now.list in
    let t = turn c.args.slots.items c.loop-slot.bin c.in-Some.slot _ (sym i.2 ∙ s.0) in
    let items = c.push_reserved.ensures.items in
    let canvas = c.in_ok-canvas.canvas in (
      tt,
      tt,
      t.0,
      omega (arith, i.3, s.1),
      (let n = ap length items in omega (arith, n, length-append c.loop-slot.bins.items (canvas ∷ []), i.4)),
      (λ b d lt. subst (λ (xs : List CanvasOf). IsBinAt StandsPlain (tt {0}) l c.args.drawing.now.frame.cut.now (length l.members) b (get_or xs b d)) (sym items)
          (pushed_at (λ k x. IsBinAt StandsPlain (tt {0}) l c.args.drawing.now.frame.cut.now (length l.members) k x) c.loop-slot.bin c.loop-slot.bins.items canvas i.4 i.5 c.in_ok-canvas.ensures.drawn b d lt)),
      omega (arith, i.6, c.push_reserved.ensures.capacity),
      c.finish.ensures.same ∙ i.7,
    )

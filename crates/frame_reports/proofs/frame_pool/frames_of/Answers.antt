use Rattle.std.proofs.Common.{ℕ, ◌+◌, ◌∷◌, [], List, length, get_or, arith, sym, subst, ap, ◌∙◌}
use Rattle.std.specs.Prelude.{IfSome}
use Rattle.std.specs.declared.option.Option.{Option}
use Rattle.std.proofs.lemmas.List.{length-append}
use Rattle.tile_cells.proofs.Lists.{pushed_at, turn}
use Rattle.seats.proofs.First.{there_at}
use Rattle.frame_reports.specs.Windows.{IsDrawn, IsSlotOf}
use Rattle.frame_reports.specs.declared.frames.Frame.{Frame}
use Rattle.frame_reports.proofs.frame_pool.frames_of.Goals as goal

pub frame_in-frame-requires-clause-there : goal.frame_in-frame-requires-clause-there
frame_in-frame-requires-clause-there g c κs within =
    let i = c.loop-slot.invariant in
    let t = turn c.args.slots.items c.loop-slot.number c.in-Some.slot _ (sym i.2 ∙ c.in-Some.ensures.steps.0) in
    let w = c.args.window.now in
    there_at (IsSlotOf w.drawing.now.scene.now w.drawing.now.groups.now w.first) c.args.slots.items c.loop-slot.number c.in-Some.slot t.1 t.2 c.requires.slots

pub loop-slot-preserved : goal.loop-slot-preserved
loop-slot-preserved g c =
    let i = c.loop-slot.invariant in
    let s = c.in-Some.ensures.steps in
    let t = turn c.args.slots.items c.loop-slot.number c.in-Some.slot _ (sym i.2 ∙ s.0) in
    let w = c.args.window.now in
    let drawn = IsDrawn w.drawing.now.scene.now w.drawing.now.groups.now in
    let items = c.push_reserved.ensures.items in
    let frame = c.frame_in-frame.result in (
      tt,
      tt,
      t.0,
      omega (arith, i.3, s.1),
      (let n = ap length items in omega (arith, n, length-append c.loop-slot.frames.items (frame ∷ []), i.4)),
      (λ k d lt. subst (λ (xs : List (Option Frame)). IfSome (get_or xs k d) (drawn (w.first + k))) (sym items)
          (pushed_at (λ (j : ℕ) (x : Option Frame). IfSome x (drawn (w.first + j))) c.loop-slot.number c.loop-slot.frames.items frame i.4 i.5 c.frame_in-frame.ensures.drawn k d lt)),
      omega (arith, i.6, c.push_reserved.ensures.capacity),
      omega (arith, i.7, c.frame_in-frame.ensures.places),
    )

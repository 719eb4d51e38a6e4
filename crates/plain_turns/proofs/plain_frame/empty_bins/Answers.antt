use Rattle.std.proofs.Common.{◌∷◌, [], List, length, get_or, arith, ap, sym, subst, ◌∙◌}
use Rattle.std.proofs.lemmas.List.{length-append}
use Rattle.cull_base.specs.Screen.{Dimensions}
use Rattle.binning.specs.Bins.{bin_span_of}
use Rattle.masked_update.specs.Canvas.{CanvasOf}
use Rattle.bin_tiles.specs.Bins.{IsBinAt}
use Rattle.bin_tiles.specs.Plain.{StandsPlain}
use Rattle.bin_tiles.proofs.Lists.{pushed_at}
use Rattle.plain_turns.proofs.plain_frame.empty_bins.Goals as goal

pub loop-bin-preserved : goal.loop-bin-preserved
loop-bin-preserved c =
    let l = c.args.list.now.list in
    let old = c.loop-bin.invariant in
    let items = c.push_reserved.ensures.items in
    let canvas = c.in_ok-canvas.canvas in
    let is = c.in_ok-canvas.ensures in
    let window = ap (λ (d : CanvasOf). d.window) is.value ∙ c.bin_span-window.ensures.value ∙ ap (λ (s : Dimensions). bin_span_of s c.args.cut.now c.loop-bin.bin) c.size.ensures in
    record {
      made = (let n = ap length items in omega (arith, n, length-append c.loop-bin.bins.items (canvas ∷ []), old.made));
      each = λ i d lt. subst (λ (xs : List CanvasOf). IsBinAt StandsPlain (tt {0}) l c.args.cut.now 0 i (get_or xs i d)) (sym items)
          (pushed_at (λ k x. IsBinAt StandsPlain (tt {0}) l c.args.cut.now 0 k x) c.loop-bin.bin c.loop-bin.bins.items canvas old.made old.each (record { window_is = window; stands = is.stands l }) i d lt);
      room = omega (arith, old.room, c.push_reserved.ensures.capacity);
    }

use Rattle.std.proofs.Common.{◌≡◌, ℕ, ◌<◌, true, List, [], length, subst, sym, ap, ◌∙◌, Err, Ok, rules}
use Rattle.std.proofs.lemmas.Result.{err_from_is_err_and}
use Rattle.binning.specs.Cut.{CutOf}
use Rattle.cull_base.specs.declared.nearness.Grade.{Grade}
use Rattle.cull_base.specs.Grade.{top_of}
use Rattle.cull_base.specs.Screen.{Dimensions, tile_count_of}
use Rattle.cull_base.specs.Stream.{Writes}
use Rattle.masked_update.specs.Canvas.{CanvasOf}
use Rattle.masked_update.specs.Views.{state_in}
use Rattle.bin_tiles.specs.Bins.{AreBinsAt}
use Rattle.bin_tiles.specs.BinViews.{TableOf, holds_in, tile_in_bins}
use Rattle.bin_tiles.specs.Plain.{StandsPlain}
use Rattle.depth_image.specs.Picture.{AreUpTo}
use Rattle.cull_report.specs.Scene.{frame_list, size_of}
use Rattle.culling.specs.Picture.{frame_picture}
use Rattle.frame_reports.specs.declared.failure.Failure.TheVariants.{Memory}
use Rattle.culling.proofs.Comings.{text_unwritten, text_written}
use Rattle.frame_reports.proofs.FrameTexts.{no_memory, out_of_memory}
use Rattle.frame_reports.proofs.DrawnPieces.{took_drawn}
use Rattle.culling.proofs.Shown.{text_shows, tiles_within}
use Rattle.culling.proofs.commands.picture.show_frame.Goals as goal

pub returns-in_err-room : goal.returns-in_err-room
returns-in_err-room g c notes =
    let p = err_from_is_err_and c.from_residual.result c.from_residual.ensures.1 in
    let is : c.in_err-room.field-0.0 ≡ Memory = search rules in
    rw (p.1, p.2, is) (no_memory (frame_picture c.args.scene.now c.args.frame) [] [] (g.W.Sink.says c.args.report.now) notes)

pub returns-in_err-drawn : goal.returns-in_err-drawn
returns-in_err-drawn g c notes = let p = err_from_is_err_and c.from_residual-in_err-drawn.result c.from_residual-in_err-drawn.ensures.1 in out_of_memory (frame_picture c.args.scene.now c.args.frame) (g.W.Sink.says c.args.report.now) notes c.from_residual-in_err-drawn.result p.0 p.1 p.2

pub returns-in_err-table : goal.returns-in_err-table
returns-in_err-table g c notes = let p = err_from_is_err_and c.from_residual-in_err-table.result c.from_residual-in_err-table.ensures.1 in out_of_memory (frame_picture c.args.scene.now c.args.frame) (g.W.Sink.says c.args.report.now) notes c.from_residual-in_err-table.result p.0 p.1 p.2

pub returns-in_err-bins : goal.returns-in_err-bins
returns-in_err-bins g c notes = let p = err_from_is_err_and c.from_residual-in_err-bins.result c.from_residual-in_err-bins.ensures.1 in out_of_memory (frame_picture c.args.scene.now c.args.frame) (g.W.Sink.says c.args.report.now) notes c.from_residual-in_err-bins.result p.0 p.1 p.2

pub of-view-requires-clause-size : goal.of-view-requires-clause-size
unfolding frame_list
of-view-requires-clause-size g c = ap (λ (t : TableOf). t.size) c.in_ok-table.ensures ∙ c.size.ensures ∙ sym c.in_ok-drawn.ensures.tiles.size

pub of-view-requires-clause-drawn : goal.of-view-requires-clause-drawn
of-view-requires-clause-drawn g c =
    let l = c.in_ok-drawn.drawn.list.list in
    let cut = sym (ap (λ (t : TableOf). t.cut) c.in_ok-table.ensures) in
    subst (λ (x : CutOf × List CanvasOf). AreBinsAt StandsPlain (tt {0}) l x.0 (length l.members) x.1) (λ i. (cut i, sym c.deref.ensures.value i)) c.in_ok-bins.ensures.drawn

pub write_picture-requires-clause-holds : goal.write_picture-requires-clause-holds
unfolding frame_list
write_picture-requires-clause-holds g c =
    let v = c.of-view.result in
    let holds : (t : ℕ) → t < tile_count_of c.size-2.result → holds_in v.table.now v.bins.now t ≡ true =
    subst (λ (d : Dimensions). (t : ℕ) → t < tile_count_of d → holds_in v.table.now v.bins.now t ≡ true) (c.in_ok-drawn.ensures.tiles.size ∙ sym c.size-2.ensures) c.of-view.ensures.holds in
    holds

pub write_picture-requires-clause-within : goal.write_picture-requires-clause-within
unfolding frame_list
write_picture-requires-clause-within g c =
    let s = c.args.scene.now in
    let tiles = tile_in_bins c.of-view.result.table.now c.of-view.result.bins.now in
    let states = took_drawn s c.args.frame c.in_ok-drawn.drawn.list.list tiles c.in_ok-drawn.ensures.tiles c.of-view.ensures.states in
    let within = tiles_within s c.args.frame tiles c.drawn_pieces.ensures.scene states in
    subst (λ (n : Dimensions). AreUpTo (top_of c.grade.result) n (state_in n tiles)) (sym c.size-2.ensures)
    (subst (λ (x : Grade). AreUpTo (top_of x) (size_of s) (state_in (size_of s) tiles)) (sym c.grade.ensures) within)

pub returns-in_err-write_picture : goal.returns-in_err-write_picture
returns-in_err-write_picture g c notes =
    let s = c.args.scene.now in
    let tiles = tile_in_bins c.of-view.result.table.now c.of-view.result.bins.now in
    let is = text_shows s c.args.frame c.size-2.result c.grade.result tiles c.size-2.ensures c.grade.ensures (took_drawn s c.args.frame c.in_ok-drawn.drawn.list.list tiles c.in_ok-drawn.ensures.tiles c.of-view.ensures.states) in
    let e = c.in_err-write_picture.field-0.0 in
    let p = err_from_is_err_and c.from_residual-in_err-write_picture.result c.from_residual-in_err-write_picture.ensures.1 in
    let r0 = g.W.Sink.says c.args.report.now in let r1 = g.W.Sink.says c.write_picture.new.sink in
    let writes : Writes r0 r1 (Err e) (frame_picture s c.args.frame) = subst (λ (t : List ℕ). Writes r0 r1 (Err e) t) is c.in_err-write_picture.ensures in
    rw (p.1, p.2) (text_unwritten (frame_picture s c.args.frame) e r0 r1 notes writes)

pub returns : goal.returns
returns g c notes =
    let s = c.args.scene.now in
    let tiles = tile_in_bins c.of-view.result.table.now c.of-view.result.bins.now in
    let is = text_shows s c.args.frame c.size-2.result c.grade.result tiles c.size-2.ensures c.grade.ensures (took_drawn s c.args.frame c.in_ok-drawn.drawn.list.list tiles c.in_ok-drawn.ensures.tiles c.of-view.ensures.states) in
    let r0 = g.W.Sink.says c.args.report.now in let r1 = g.W.Sink.says c.write_picture.new.sink in
    let writes : Writes r0 r1 (Ok tt) (frame_picture s c.args.frame) = subst (λ (t : List ℕ). Writes r0 r1 (Ok tt) t) is c.in_ok-write_picture.ensures in
    text_written (frame_picture s c.args.frame) tt r0 r1 notes writes

use Rattle.std.proofs.Common.{◌≡◌, ℕ, ◌<◌, true, false, List, length, replicate, rules, subst, sym, ap, ◌∙◌}
use Rattle.binning.specs.Cut.{CutOf}
use Rattle.cull_base.specs.Screen.{Dimensions, tile_count_of}
use Rattle.cull_report.specs.Scene.{frame_list, size_of}
use Rattle.masked_update.specs.Canvas.{CanvasOf}
use Rattle.bin_tiles.specs.Bins.{AreBinsAt}
use Rattle.bin_tiles.specs.BinViews.{TableOf, holds_in, tile_in_bins}
use Rattle.bin_tiles.specs.Plain.{StandsPlain}
use Rattle.frame_reports.proofs.GroupLines.{groups_are_apart}
use Rattle.frame_reports.proofs.Marks.{none_settled, settled_over}
use Rattle.frame_reports.proofs.ScenePieces.{frame_pieces_are}
use Rattle.frame_reports.proofs.DrawnPieces.{took_drawn}
use Rattle.frame_reports.proofs.drawing.draw_plainly.Goals as goal

pub of-view-requires-clause-size : goal.of-view-requires-clause-size
unfolding frame_list
of-view-requires-clause-size g c = ap (λ (t : TableOf). t.size) c.args.drawing.now.is_table ∙ sym c.in_ok-drawn.ensures.tiles.size

pub of-view-requires-clause-drawn : goal.of-view-requires-clause-drawn
of-view-requires-clause-drawn g c =
    let l = c.in_ok-drawn.drawn.list.list in
    let cut = sym (ap (λ (t : TableOf). t.cut) c.args.drawing.now.is_table) in
    subst (λ (x : CutOf × List CanvasOf). AreBinsAt StandsPlain (tt {0}) l x.0 (length l.members) x.1) (λ i. (cut i, sym c.deref.ensures.value i)) c.in_ok-bins.ensures.drawn

pub invariant_of-asked-clause-holds : goal.invariant_of-asked-clause-holds
unfolding frame_list
invariant_of-asked-clause-holds g c =
    let v = c.of-view.result in
    let s = c.args.drawing.now.scene.now in
    let holds : (t : ℕ) → t < tile_count_of (size_of s) → holds_in v.table.now v.bins.now t ≡ true =
    subst (λ (d : Dimensions). (t : ℕ) → t < tile_count_of d → holds_in v.table.now v.bins.now t ≡ true) c.in_ok-drawn.ensures.tiles.size c.of-view.ensures.holds in
    holds

pub invariant_of-asked-clause-right : goal.invariant_of-asked-clause-right
unfolding frame_list
invariant_of-asked-clause-right g c =
    let s = c.args.drawing.now.scene.now in
    let v = c.of-view.result in
    let states = took_drawn s c.args.frame c.in_ok-drawn.drawn.list.list (tile_in_bins v.table.now v.bins.now) c.in_ok-drawn.ensures.tiles c.of-view.ensures.states in
    let marks = c.deref-2.result.now in
    let unset : marks ≡ replicate (length s.objects) false = search rules in
    settled_over s c.args.frame (tile_in_bins v.table.now v.bins.now) marks states (none_settled s c.args.frame marks unset)

pub invariant_of-grouped : goal.invariant_of-grouped
invariant_of-grouped g c = let drawing = c.args.drawing.now in record { apart = groups_are_apart drawing.plan.now.beside drawing.scene.now _ drawing.plan.now.members drawing.are_groups }

pub verdicts_by-requires-after_bounds : goal.verdicts_by-requires-after_bounds
unfolding frame_list
verdicts_by-requires-after_bounds g c =
    let v = c.of-view.result in
    let s = c.args.drawing.now.scene.now in
    let states = took_drawn s c.args.frame c.in_ok-drawn.drawn.list.list (tile_in_bins v.table.now v.bins.now) c.in_ok-drawn.ensures.tiles c.of-view.ensures.states in
    λ lifetimes within t lt. states t lt

pub returns-clause-valid : goal.returns-clause-valid
returns-clause-valid g c = frame_pieces_are c.args.drawing.now.scene.now c.args.frame c.drawn_pieces.ensures.scene

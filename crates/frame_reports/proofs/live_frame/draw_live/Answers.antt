use Rattle.std.proofs.Common.{◌≡◌, true, nat_lt, List, length, arith, subst, sym, ap, ◌∙◌}
use Rattle.std.proofs.lemmas.Bool.Decides.{nat_tests}
use Rattle.cull_base.specs.Tiles.{PieceList, ArePieces}
use Rattle.cull_base.specs.Screen.{tile_count_of}
use Rattle.tile_queues.specs.Frames.{HaveStates}
use Rattle.masked_update.specs.TileOf.{TileOf, tile_at}
use Rattle.cull_report.specs.Scene.{frame_list, size_of}
use Rattle.frame_reports.proofs.LiveTexts.{kept_is_live}
use Rattle.frame_reports.proofs.GroupLines.{groups_are_apart}
use Rattle.frame_reports.proofs.Marks.{settled_in_end, settled_over}
use Rattle.frame_reports.proofs.live_frame.draw_live.Goals as goal

pub returns-clause-live : goal.returns-clause-live
returns-clause-live g c =
    let new = c.draw_in_cells.new.caller in
    let kept = c.in_ok-states.ensures.keeps in
    let made = c.in_ok-caller.ensures in
    kept_is_live c.args.drawing.now.scene.now c.args.rounds c.args.watch c.args.frame new.watched.scene.now new.watched.frame new.watched.objects new.lines.items c.in_ok-states.ensures.done.1.0
    (kept.0 ∙ made.scene) (kept.1 ∙ made.frame) (kept.2 ∙ made.objects) (kept.3 ∙ made.lines)

pub invariant_of-asked-clause-holds : goal.invariant_of-asked-clause-holds
unfolding frame_list
invariant_of-asked-clause-holds g c =
    let s = c.args.drawing.now.scene.now in
    let count : length c.new-view.result.states.now ≡ tile_count_of (frame_list s c.args.frame).size =
    ap length (c.new-view.ensures ∙ c.deref.ensures.value) ∙ subst (λ (l : PieceList). length c.in_ok-states.states.items ≡ tile_count_of l.size) c.in_ok-list.ensures.list c.in_ok-states.ensures.tiles in
    λ t lt. let e : nat_lt t (tile_count_of (size_of s)) ≡ true = grind (arith, nat_tests) in subst (λ n. nat_lt t n ≡ true) (sym count) e

pub invariant_of-grouped : goal.invariant_of-grouped
invariant_of-grouped g c = let drawing = c.args.drawing.now in record { apart = groups_are_apart drawing.plan.now.beside drawing.scene.now _ drawing.plan.now.members drawing.are_groups }

pub verdicts_by-requires-after_bounds : goal.verdicts_by-requires-after_bounds
unfolding frame_list
verdicts_by-requires-after_bounds g c =
    let list = frame_list c.args.drawing.now.scene.now c.args.frame in
    let drawn : HaveStates list c.in_ok-states.states.items = subst (λ (l : PieceList). HaveStates l c.in_ok-states.states.items) c.in_ok-list.ensures.list c.in_ok-states.ensures.drawn in
    let seen : HaveStates list c.new-view.result.states.now = subst (λ (ts : List TileOf). HaveStates list ts) (sym (c.new-view.ensures ∙ c.deref.ensures.value)) drawn in
    λ lifetimes within t lt. seen t lt

pub invariant_of-asked-clause-right : goal.invariant_of-asked-clause-right
unfolding frame_list
invariant_of-asked-clause-right g c =
    let s = c.args.drawing.now.scene.now in let frame = c.args.frame in
    let new = c.draw_in_cells.new.caller in
    let kept = c.in_ok-states.ensures.keeps in
    let made = c.in_ok-caller.ensures in
    let pieces = subst (λ (l : PieceList). ArePieces l.members) c.in_ok-list.ensures.list c.in_ok-states.ensures.pieces in
    let settled = settled_in_end s frame new.watched.scene.now new.watched.frame new.settled.items (kept.0 ∙ made.scene) (kept.1 ∙ made.frame) c.in_ok-states.ensures.done.1.1 pieces in
    let drawn : HaveStates (frame_list s frame) c.in_ok-states.states.items = subst (λ (l : PieceList). HaveStates l c.in_ok-states.states.items) c.in_ok-list.ensures.list c.in_ok-states.ensures.drawn in
    let seen : HaveStates (frame_list s frame) c.new-view.result.states.now = subst (λ (ts : List TileOf). HaveStates (frame_list s frame) ts) (sym (c.new-view.ensures ∙ c.deref.ensures.value)) drawn in
    rw c.deref-2.ensures.value (settled_over s frame (λ t. tile_at c.new-view.result.states.now t) new.settled.items seen settled)

pub returns-clause-valid : goal.returns-clause-valid
returns-clause-valid g c = subst (λ (l : PieceList). ArePieces l.members) c.in_ok-list.ensures.list c.in_ok-states.ensures.pieces

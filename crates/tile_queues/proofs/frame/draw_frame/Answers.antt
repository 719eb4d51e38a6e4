use Rattle.std.proofs.Common.{◌≡◌, List, length, rules, refl, sym, subst, ap, ◌∙◌}
use Rattle.std.proofs.lemmas.List.{with_items_is}
use Rattle.atomic_table.specs.Seated.{TableId}
use Rattle.cull_base.specs.Screen.{tile_count_of}
use Rattle.tile_cells.specs.Standing.{AreStanding}
use Rattle.bin_queues.specs.QueueParts.{BatchedFrame, batched}
use Rattle.bin_queues.specs.Tasks.{Submitting}
use Rattle.tile_queues.specs.Shares.{AreDrained, AreFirstShares, AreShares}
use Rattle.tile_queues.specs.declared.share.Share.{Share}
use Rattle.tile_queues.proofs.Dealing.{dealt_first}
use Rattle.tile_queues.proofs.Ending.{fresh_cells}
use Rattle.tile_queues.proofs.frame.draw_frame.Goals as goal

pub draw_and_read-requires-clause-frame : goal.draw_and_read-requires-clause-frame
draw_and_read-requires-clause-frame g c κs within =
    let list = c.args.list.now.list in
    let cut = c.args.cut.now in
    let size = c.args.batch in
    let framed : c.in_ok-queues.submitter.frame ≡ batched list cut size c.args.cells.now = c.in_ok-queues.ensures.frame.0 ∙ ap (λ (cells : List TableId). batched list cut size cells) (fresh_cells c.args.cells.now list c.args.writers.items c.requires.writers) in
    ap (λ (s : Submitting). s.frame) c.into_parts-sender.ensures.sender ∙ framed

pub draw_and_read-requires-clause-shares : goal.draw_and_read-requires-clause-shares
draw_and_read-requires-clause-shares g c κs within =
    let list = c.args.list.now.list in
    let cut = c.args.cut.now in
    let size = c.args.batch in
    let frame = batched list cut size c.args.cells.now in
    let first = subst (λ (cells : List TableId). AreFirstShares c.in_ok-queues.queues (batched list cut size cells) c.min-workers.result c.in_ok-queues.shares.items) (fresh_cells c.args.cells.now list c.args.writers.items c.requires.writers) c.in_ok-queues.ensures.shares in
    subst (λ (xs : List Share). AreShares c.in_ok-queues.queues frame (length xs) xs) (sym c.as_mut_slice-lent.ensures.value) (dealt_first c.in_ok-queues.queues frame c.min-workers.result c.in_ok-queues.shares.items first)

pub hand_back_all-requires : goal.hand_back_all-requires
hand_back_all-requires g c =
    let list = c.args.list.now.list in
    let cut = c.args.cut.now in
    let size = c.args.batch in
    let frame = batched list cut size c.args.cells.now in
    let new = c.draw_and_read.new.shares in
    let same : length new ≡ c.in_ok-queues.shares.len = search rules in
    let is = with_items_is c.in_ok-queues.shares new same in
    let framed : c.in_ok-queues.submitter.frame ≡ frame = c.in_ok-queues.ensures.frame.0 ∙ ap (λ (cells : List TableId). batched list cut size cells) (fresh_cells c.args.cells.now list c.args.writers.items c.requires.writers) in
    let closed : c.of.result.frame ≡ frame = ap (λ (s : Submitting). s.frame) c.of.ensures ∙ ap (λ (s : Submitting). s.frame) c.in_ok-draw_and_read.ensures.submitted ∙ ap (λ (s : Submitting). s.frame) c.into_parts-sender.ensures.sender ∙ framed in
    let drawn = subst (λ (f : BatchedFrame). AreDrained c.in_ok-queues.queues f (length new) new) (sym closed) c.in_ok-draw_and_read.ensures.drawn in (
      refl,
      (
        subst (λ (f : BatchedFrame). length f.cells ≡ tile_count_of f.list.size) (sym closed) c.requires.whole,
        subst (λ (xs : List Share). AreDrained c.in_ok-queues.queues c.of.result.frame (length xs) xs) (sym is) drawn,
      ),
    )

pub returns-clause-standing : goal.returns-clause-standing
returns-clause-standing g c =
    let list = c.args.list.now.list in
    let cut = c.args.cut.now in
    let size = c.args.batch in
    let framed : c.in_ok-queues.submitter.frame ≡ batched list cut size c.args.cells.now = c.in_ok-queues.ensures.frame.0 ∙ ap (λ (cells : List TableId). batched list cut size cells) (fresh_cells c.args.cells.now list c.args.writers.items c.requires.writers) in
    let closed : c.of.result.frame ≡ batched list cut size c.args.cells.now = ap (λ (s : Submitting). s.frame) c.of.ensures ∙ ap (λ (s : Submitting). s.frame) c.in_ok-draw_and_read.ensures.submitted ∙ ap (λ (s : Submitting). s.frame) c.into_parts-sender.ensures.sender ∙ framed in
    subst (λ (f : BatchedFrame). AreStanding f.cells f.list (length f.list.members) c.hand_back_all.result.items) closed c.hand_back_all.ensures

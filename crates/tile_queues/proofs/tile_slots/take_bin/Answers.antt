use Rattle.std.proofs.Common.{◌≡◌, ◌*◌, ◌<◌, ◌∷◌, [], List, None, length, length-set, get_or, arith, refl, ap, sym, ◌∙◌, subst}
use Rattle.std.proofs.lemmas.List.{length-append}
use Rattle.binning.specs.Bins.{bin_span_of}
use Rattle.cull_base.specs.Screen.{Dimensions}
use Rattle.cull_base.specs.Span.{IsSpan, tiles_in}
use Rattle.cull_base.specs.Tiles.{PieceList}
use Rattle.cull_base.specs.declared.tile_span.TileSpan.{TileSpan}
use Rattle.tile_cells.specs.Cells.{Writing}
use Rattle.tile_cells.specs.Standing.{StandsAt}
use Rattle.tile_queues.specs.CellBins.{tile_numbered}
use Rattle.bin_tiles.proofs.Lists.{pushed_at}
use Rattle.tile_queues.proofs.Taking.{holds_first, next_bin, one_less, slot_is_full, writer_is}
use Rattle.tile_queues.proofs.tile_slots.take_bin.Goals as goal

pub take_writer-requires-clause-full : goal.take_writer-requires-clause-full
take_writer-requires-clause-full c =
    let t = c.args.intake.now in
    let f = t.of.frame in
    let old = c.loop-number.invariant in
    let b = c.bin.ensures.batched in
    let sized : c.size-size.result ≡ f.list.size = c.size-size.ensures ∙ ap (λ (l : PieceList). l.size) (sym c.requires.list) in
    let window : c.bin_span-window.result ≡ bin_span_of f.list.size f.cut t.of.bin = c.bin_span-window.ensures.value ∙ (λ i. bin_span_of (sized i) (c.cut-2.ensures i) (c.bin.ensures.value i)) in
    let span = subst (λ (z : Dimensions × TileSpan). IsSpan z.0 z.1) (λ i. (sized i, window i)) c.bin_span-window.ensures.span in
    let count : c.columns.result * c.rows.result ≡ tiles_in (bin_span_of f.list.size f.cut t.of.bin) = (λ i. c.columns.ensures i * c.rows.ensures i) ∙ ap tiles_in window in
    let lt : c.loop-number.number < tiles_in (bin_span_of f.list.size f.cut t.of.bin) = omega (arith, count, c.loop-number-test.true) in
    let tile = c.tile_at_number-tile.ensures.value ∙ (λ i. tile_numbered (sized i) (window i) c.loop-number.number) in
    slot_is_full f t.of.bin b.sized b.is_cut span c.loop-number.number lt c.loop-number.slots old.left c.tile_at_number-tile.result tile

pub loop-number-preserved : goal.loop-number-preserved
loop-number-preserved c =
    let t = c.args.intake.now in
    let f = t.of.frame in
    let old = c.loop-number.invariant in
    let n = c.loop-number.number in
    let w = c.take_writer.result in
    let b = c.bin.ensures.batched in
    let sized : c.size-size.result ≡ f.list.size = c.size-size.ensures ∙ ap (λ (l : PieceList). l.size) (sym c.requires.list) in
    let window : c.bin_span-window.result ≡ bin_span_of f.list.size f.cut t.of.bin = c.bin_span-window.ensures.value ∙ (λ i. bin_span_of (sized i) (c.cut-2.ensures i) (c.bin.ensures.value i)) in
    let span = subst (λ (z : Dimensions × TileSpan). IsSpan z.0 z.1) (λ i. (sized i, window i)) c.bin_span-window.ensures.span in
    let count : c.columns.result * c.rows.result ≡ tiles_in (bin_span_of f.list.size f.cut t.of.bin) = (λ i. c.columns.ensures i * c.rows.ensures i) ∙ ap tiles_in window in
    let lt : n < tiles_in (bin_span_of f.list.size f.cut t.of.bin) = omega (arith, count, c.loop-number-test.true) in
    let tile = c.tile_at_number-tile.ensures.value ∙ (λ i. tile_numbered (sized i) (window i) n) in
    let at = writer_is f t.of.bin b.sized b.is_cut span n lt c.loop-number.slots old.left c.tile_at_number-tile.result w tile c.take_writer.ensures.taken in
    let here = subst (λ (z : TileSpan). StandsAt f.cells f.list 0 (tile_numbered f.list.size z n) w) (sym window) at in
    let items = c.push_reserved.ensures.items in
    record {
      whole = ap length c.take_writer.ensures.left ∙ length-set c.loop-number.slots c.tile_at_number-tile.result None ∙ old.whole;
      left = rw c.take_writer.ensures.left (one_less f t.of.bin b.sized b.is_cut span n lt c.loop-number.slots old.left c.tile_at_number-tile.result tile);
      made = (let m = ap length items in omega (arith, m, length-append c.loop-number.writers.items (w ∷ []), old.made));
      each = λ m d ml. subst (λ (ws : List Writing). StandsAt f.cells f.list 0 (tile_numbered f.list.size c.bin_span-window.result m) (get_or ws m d)) (sym items)
          (pushed_at (λ k (x : Writing). StandsAt f.cells f.list 0 (tile_numbered f.list.size c.bin_span-window.result k) x) n c.loop-number.writers.items w old.made old.each here m d ml);
      room = omega (arith, old.room, c.push_reserved.ensures.capacity);
    }

pub returns-clause-left : goal.returns-clause-left
returns-clause-left c = next_bin c.args.intake.now.of.frame c.args.intake.now.of.bin c.loop-number.number c.loop-number.slots c.loop-number.invariant.left

pub returns-clause-bin : goal.returns-clause-bin
returns-clause-bin c =
    let t = c.args.intake.now in
    let f = t.of.frame in
    let old = c.loop-number.invariant in
    let sized : c.size-size.result ≡ f.list.size = c.size-size.ensures ∙ ap (λ (l : PieceList). l.size) (sym c.requires.list) in
    let window : c.bin_span-window.result ≡ bin_span_of f.list.size f.cut t.of.bin = c.bin_span-window.ensures.value ∙ (λ i. bin_span_of (sized i) (c.cut-2.ensures i) (c.bin.ensures.value i)) in
    let span = subst (λ (z : Dimensions). IsSpan z c.bin_span-window.result) sized c.bin_span-window.ensures.span in
    let count : c.columns.result * c.rows.result ≡ tiles_in c.bin_span-window.result = (λ i. c.columns.ensures i * c.rows.ensures i) in
    let end : c.loop-number.number ≡ tiles_in c.bin_span-window.result = omega (arith, count, c.loop-number-test.false, c.loop-number.auto.number-end) in
    holds_first t c.bin_span-window.result c.loop-number.writers.items (record { window = c.bin_span-window.result; writers = c.loop-number.writers }) c.requires.first window span refl refl (old.made ∙ end)
    (λ n d lt. old.each n d (omega (arith, lt, end)))

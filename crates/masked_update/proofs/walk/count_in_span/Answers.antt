use Rattle.std.proofs.Common.{◌≡◌, ◌<◌, arith, sym, subst, true}
use Rattle.cull_base.specs.Span.{IsPartOf, has_tile}
use Rattle.cull_base.specs.declared.tile_span.TileSpan.{TileSpan}
use Rattle.masked_update.specs.TileOf.{TileOf}
use Rattle.masked_update.specs.Taken.{counted_tile}
use Rattle.masked_update.specs.Walk.{CountedWhere, rows_before}
use Rattle.masked_update.proofs.Walks.{none_changed, rows_begin, rows_more, rows_still, row_within}
use Rattle.masked_update.proofs.walk.count_in_span.Goals as goal

pub loop-row-init : goal.loop-row-init
loop-row-init c =
    none_changed (has_tile (rows_before c.args.span c.args.span.first_row)) (λ p t. counted_tile t) c.args.canvas.now c.window-window.ensures.whole (rows_begin c.args.span)

pub count_in_row-requires-clause-part : goal.count_in_row-requires-clause-part
count_in_row-requires-clause-part c = subst (λ (w : TileSpan). IsPartOf w c.args.span) (sym c.loop-row.invariant.window) c.requires.part

pub count_in_row-requires-clause-counts : goal.count_in_row-requires-clause-counts
count_in_row-requires-clause-counts c p h on =
    let span = c.args.span in
    let h' = subst (λ (w : TileSpan). has_tile w p ≡ true) c.loop-row.invariant.window h in
    let still = rows_still span (λ p t. counted_tile t) c.args.canvas.now c.loop-row.canvas c.loop-row.row p c.loop-row.invariant h' on in
    subst (λ (t : TileOf). t.count < 131072) (sym still) (c.requires.counts p h' (row_within span c.loop-row.row p c.loop-row.auto.row c.loop-row-test.true on))

pub loop-row-preserved : goal.loop-row-preserved
loop-row-preserved c =
    rows_more c.args.span (λ p t. counted_tile t) c.args.canvas.now c.loop-row.canvas c.count_in_row.new.canvas c.loop-row.row c.loop-row.auto.row c.loop-row.invariant c.count_in_row.ensures

pub returns : goal.returns
returns c =
    let span = c.args.span in
    let end : c.loop-row.row ≡ span.end_row = omega (arith, c.loop-row-test.false, c.loop-row.auto.row-end, c.requires.part.rows) in
    subst (λ n. CountedWhere (has_tile (rows_before span n)) c.args.canvas.now c.loop-row.canvas) end c.loop-row.invariant

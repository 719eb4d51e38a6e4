use Rattle.std.proofs.Common.{◌≡◌, arith, sym, subst}
use Rattle.cull_base.specs.Span.{IsPartOf, has_tile}
use Rattle.cull_base.specs.declared.tile_span.TileSpan.{TileSpan}
use Rattle.masked_update.specs.Taken.{merged_tile}
use Rattle.masked_update.specs.Walk.{MergedWhere, rows_before}
use Rattle.masked_update.proofs.Walks.{none_changed, rows_begin, rows_more}
use Rattle.masked_update.proofs.small_walk.merge_small_in_span.Goals as goal

pub loop-row-init : goal.loop-row-init
loop-row-init c =
    none_changed (has_tile (rows_before c.args.span c.args.span.first_row)) (λ p t. merged_tile c.args.reached.now.size p c.args.piece.now t) c.args.canvas.now c.window-window.ensures.whole (rows_begin c.args.span)

pub merge_small_in_row-requires-clause-part : goal.merge_small_in_row-requires-clause-part
merge_small_in_row-requires-clause-part c = subst (λ (w : TileSpan). IsPartOf w c.args.span) (sym c.loop-row.invariant.window) c.requires.part

pub loop-row-preserved : goal.loop-row-preserved
loop-row-preserved c =
    rows_more c.args.span (λ p t. merged_tile c.args.reached.now.size p c.args.piece.now t) c.args.canvas.now c.loop-row.canvas c.merge_small_in_row.new.canvas c.loop-row.row c.loop-row.auto.row c.loop-row.invariant c.merge_small_in_row.ensures

pub returns : goal.returns
returns c =
    let span = c.args.span in
    let end : c.loop-row.row ≡ span.end_row = omega (arith, c.loop-row-test.false, c.loop-row.auto.row-end, c.requires.part.rows) in
    subst (λ n. MergedWhere (has_tile (rows_before span n)) c.args.reached.now.size c.args.piece.now c.args.canvas.now c.loop-row.canvas) end c.loop-row.invariant

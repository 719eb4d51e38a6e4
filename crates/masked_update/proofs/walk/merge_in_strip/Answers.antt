use Rattle.std.proofs.Common.{◌≡◌, ap, ◌∙◌, arith, sym, subst}
use Rattle.cull_base.specs.Span.{IsPartOf, columns_in, has_tile, number_in}
use Rattle.cull_base.specs.declared.tile_span.TileSpan.{TileSpan}
use Rattle.masked_update.specs.Taken.{merged_tile}
use Rattle.masked_update.specs.Walk.{MergedWhere, rows_before}
use Rattle.masked_update.proofs.Tiles.{tile_with}
use Rattle.masked_update.proofs.Walks.{none_changed, number_next_row, row_number, rows_begin, rows_more}
use Rattle.masked_update.proofs.walk.merge_in_strip.Goals as goal

pub loop-row-init : goal.loop-row-init
loop-row-init c = record {
  merged = none_changed (has_tile (rows_before c.args.span c.args.span.first_row)) (λ p t. merged_tile c.args.reached.now.size p c.args.piece.now t) c.args.canvas.now c.window-window.ensures.whole (rows_begin c.args.span);
  number = row_number c.args.canvas.now.window c.window-window.result c.args.span.first_row c.args.span.first_column c.row_start-start.result c.window-window.ensures.value c.row_start-start.ensures;
}

pub merge_in_row-requires-clause-part : goal.merge_in_row-requires-clause-part
merge_in_row-requires-clause-part c = subst (λ (w : TileSpan). IsPartOf w c.args.span) (sym c.loop-row.invariant.merged.window) c.requires.part

pub merge_in_row-requires-clause-number : goal.merge_in_row-requires-clause-number
merge_in_row-requires-clause-number c = subst (λ (w : TileSpan). c.loop-row.number ≡ number_in w (tile_with c.args.span.first_column c.loop-row.row)) (sym c.loop-row.invariant.merged.window) c.loop-row.invariant.number

pub loop-row-preserved : goal.loop-row-preserved
loop-row-preserved c =
    let inv = c.loop-row.invariant in
    record {
      merged = rows_more c.args.span (λ p t. merged_tile c.args.reached.now.size p c.args.piece.now t) c.args.canvas.now c.loop-row.canvas c.merge_in_row.new.canvas c.loop-row.row c.loop-row.auto.row inv.merged c.merge_in_row.ensures;
      number = number_next_row c.args.canvas.now.window c.args.span.first_column c.loop-row.row c.loop-row.number c.columns-columns.result (omega (arith, c.requires.part.first_row, c.loop-row.auto.row))
          (c.columns-columns.ensures ∙ ap columns_in c.window-window.ensures.value) inv.number;
    }

pub returns : goal.returns
returns c =
    let span = c.args.span in
    let end : c.loop-row.row ≡ span.end_row = omega (arith, c.loop-row-test.false, c.loop-row.auto.row-end, c.requires.part.rows) in
    subst (λ n. MergedWhere (has_tile (rows_before span n)) c.args.reached.now.size c.args.piece.now c.args.canvas.now c.loop-row.canvas) end c.loop-row.invariant.merged

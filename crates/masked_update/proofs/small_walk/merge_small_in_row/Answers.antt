use Rattle.std.proofs.Common.{◌≡◌, arith, subst}
use Rattle.masked_update.specs.Taken.{merged_tile}
use Rattle.masked_update.specs.Walk.{MergedWhere, is_in_row}
use Rattle.masked_update.proofs.Tiles.{tile_with}
use Rattle.masked_update.proofs.Walks.{columns_before, none_changed, number_inside, row_begins, row_more, walk_at}
use Rattle.masked_update.proofs.small_walk.merge_small_in_row.Goals as goal

pub loop-column-init : goal.loop-column-init
loop-column-init c =
    none_changed (is_in_row (columns_before c.args.span c.args.span.first_column) c.args.row) (λ p t. merged_tile c.args.reached.now.size p c.args.piece.now t) c.args.canvas.now c.window-window.ensures.whole (row_begins c.args.span c.args.row)

pub merge_small-requires-clause-tile : goal.merge_small-requires-clause-tile
merge_small-requires-clause-tile c =
    let old = c.args.canvas.now in let at = walk_at old.window c.window-window.result c.args.span c.args.row c.loop-column.column c.row_start-start.result c.window-window.ensures.value c.row_start-start.ensures c.requires.part c.requires.row.0 c.requires.row.1 c.loop-column.auto.column c.loop-column-test.true in
    let inside = number_inside (is_in_row (columns_before c.args.span c.loop-column.column) c.args.row) (λ p t. merged_tile c.args.reached.now.size p c.args.piece.now t) old c.loop-column.canvas (tile_with c.loop-column.column c.args.row) c.loop-column.invariant at.here in
    omega (arith, at.is, inside)

pub loop-column-preserved : goal.loop-column-preserved
loop-column-preserved c =
    let old = c.args.canvas.now in let at = walk_at old.window c.window-window.result c.args.span c.args.row c.loop-column.column c.row_start-start.result c.window-window.ensures.value c.row_start-start.ensures c.requires.part c.requires.row.0 c.requires.row.1 c.loop-column.auto.column c.loop-column-test.true in
    row_more c.args.span (λ p t. merged_tile c.args.reached.now.size p c.args.piece.now t) old c.loop-column.canvas c.merge_small.new.self (tile_with c.loop-column.column c.args.row) _ at.here at.is c.loop-column.auto.column c.loop-column.invariant c.merge_small.ensures

pub returns : goal.returns
returns c =
    let span = c.args.span in
    let end : c.loop-column.column ≡ span.end_column = omega (arith, c.loop-column-test.false, c.loop-column.auto.column-end, c.requires.part.columns) in
    subst (λ n. MergedWhere (is_in_row (columns_before span n) c.args.row) c.args.reached.now.size c.args.piece.now c.args.canvas.now c.loop-column.canvas) end c.loop-column.invariant

use Rattle.std.proofs.Common.{◌≡◌, ◌<◌, arith, sym, subst}
use Rattle.masked_update.specs.TileOf.{TileOf}
use Rattle.masked_update.specs.Taken.{counted_tile}
use Rattle.masked_update.specs.Walk.{CountedWhere, is_in_row}
use Rattle.masked_update.proofs.Tiles.{tile_with}
use Rattle.masked_update.proofs.Walks.{columns_before, none_changed, number_inside, row_begins, row_in_span, row_more, row_still, walk_at}
use Rattle.masked_update.proofs.walk.count_in_row.Goals as goal

pub loop-column-init : goal.loop-column-init
loop-column-init c =
    none_changed (is_in_row (columns_before c.args.span c.args.span.first_column) c.args.row) (λ p t. counted_tile t) c.args.canvas.now c.window-window.ensures.whole (row_begins c.args.span c.args.row)

pub count-requires-clause-tile : goal.count-requires-clause-tile
count-requires-clause-tile c =
    let old = c.args.canvas.now in let at = walk_at old.window c.window-window.result c.args.span c.args.row c.loop-column.column c.row_start-start.result c.window-window.ensures.value c.row_start-start.ensures c.requires.part c.requires.row.0 c.requires.row.1 c.loop-column.auto.column c.loop-column-test.true in
    let inside = number_inside (is_in_row (columns_before c.args.span c.loop-column.column) c.args.row) (λ p t. counted_tile t) old c.loop-column.canvas (tile_with c.loop-column.column c.args.row) c.loop-column.invariant at.here in
    omega (arith, at.is, inside)

pub count-requires-clause-count : goal.count-requires-clause-count
count-requires-clause-count c =
    let old = c.args.canvas.now in let at = walk_at old.window c.window-window.result c.args.span c.args.row c.loop-column.column c.row_start-start.result c.window-window.ensures.value c.row_start-start.ensures c.requires.part c.requires.row.0 c.requires.row.1 c.loop-column.auto.column c.loop-column-test.true in
    let q = tile_with c.loop-column.column c.args.row in
    let still = row_still c.args.span (λ p t. counted_tile t) old c.loop-column.canvas q _ at.here at.is c.loop-column.invariant in
    subst (λ (t : TileOf). t.count < 131072) (sym still) (c.requires.counts q at.here (row_in_span c.args.span c.args.row c.loop-column.column c.loop-column.auto.column c.loop-column-test.true))

pub loop-column-preserved : goal.loop-column-preserved
loop-column-preserved c =
    let old = c.args.canvas.now in let at = walk_at old.window c.window-window.result c.args.span c.args.row c.loop-column.column c.row_start-start.result c.window-window.ensures.value c.row_start-start.ensures c.requires.part c.requires.row.0 c.requires.row.1 c.loop-column.auto.column c.loop-column-test.true in
    row_more c.args.span (λ p t. counted_tile t) old c.loop-column.canvas c.count.new.self (tile_with c.loop-column.column c.args.row) _ at.here at.is c.loop-column.auto.column c.loop-column.invariant c.count.ensures

pub returns : goal.returns
returns c =
    let span = c.args.span in
    let end : c.loop-column.column ≡ span.end_column = omega (arith, c.loop-column-test.false, c.loop-column.auto.column-end, c.requires.part.columns) in
    subst (λ n. CountedWhere (is_in_row (columns_before span n) c.args.row) c.args.canvas.now c.loop-column.canvas) end c.loop-column.invariant

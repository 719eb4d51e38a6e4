use Rattle.std.proofs.Common.{arith, subst}
use Rattle.cull_base.specs.Span.{has_tile}
use Rattle.masked_update.specs.Walk.{NoneBelowWhere, rows_before}
use Rattle.masked_update.proofs.Tiles.{stands}
use Rattle.masked_update.proofs.Walks.{among_before, merged_from, merged_where_behind}
use Rattle.masked_update.proofs.walk.merge_where_ahead.Goals as goal

pub returns-then-first_row-span : goal.returns-then-first_row-span
returns-then-first_row-span c =
    let old = c.args.canvas.now in
    let span = c.args.span in
    let row = c.first_row_ahead-first_row.result in
    let behind = subst (λ q. NoneBelowWhere q (has_tile (rows_before span row)) old) c.greatest_nearness.ensures.value c.first_row_ahead-first_row.ensures.behind in
    merged_from span row c.args.reached.now.size c.args.tri.now old c.merge_piece.new.canvas c.greatest_nearness.ensures.valid c.first_row_ahead-first_row.ensures.from behind c.merge_piece.ensures

pub returns-else-first_row-span : goal.returns-else-first_row-span
returns-else-first_row-span c =
    let old = c.args.canvas.now in
    let span = c.args.span in
    let row = c.first_row_ahead-first_row.result in
    let behind = subst (λ q. NoneBelowWhere q (has_tile (rows_before span row)) old) c.greatest_nearness.ensures.value c.first_row_ahead-first_row.ensures.behind in
    merged_where_behind (has_tile span) c.args.reached.now.size c.args.tri.now old c.greatest_nearness.ensures.valid c.window-window.ensures.whole
    (λ p h on. let before = (stands span p on).row_before in behind p h (among_before span row p on (omega (arith, before, c.if-first_row-span.false))))

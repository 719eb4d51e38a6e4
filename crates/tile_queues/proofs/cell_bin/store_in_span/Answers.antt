use Rattle.std.proofs.Common.{◌≡◌, arith}
use Rattle.tile_queues.proofs.Storing.{row_stored, span_stored}
use Rattle.tile_queues.proofs.cell_bin.store_in_span.Goals as goal

pub store_in_row-requires-clause-form : goal.store_in_row-requires-clause-form
store_in_row-requires-clause-form g c = c.requires.form c.loop-row.row

pub loop-row-preserved : goal.loop-row-preserved
loop-row-preserved g c =
    row_stored c.args.member.now.cells.now c.args.member.now.list.now.list c.args.window c.args.span c.args.member.now.index c.loop-row.row c.store_in_row.new.writers c.loop-row.auto.row c.store_in_row.ensures

pub returns : goal.returns
returns g c =
    let end : c.loop-row.row ≡ c.args.span.end_row = omega (arith, c.loop-row-test.false, c.loop-row.auto.row-end, c.requires.part.rows) in
    span_stored c.args.member.now.cells.now c.args.member.now.list.now.list c.args.window c.args.span c.args.member.now.index c.loop-row.row c.loop-row.writers end c.loop-row.invariant

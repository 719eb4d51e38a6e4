use Rattle.std.proofs.Common.{◌≡◌, ℕ, ◌+◌, ◌-◌, true, refl, sym, subst}
use Rattle.cull_base.specs.Piece.{box_of}
use Rattle.cull_base.specs.Rectangle.{meets}
use Rattle.cull_base.specs.Screen.{tile_place, tile_rect_of}
use Rattle.masked_update.specs.Forms.{piece_of_form}
use Rattle.masked_update.proofs.Walks.{row_number}
use Rattle.tile_cells.specs.Cells.{Writing}
use Rattle.tile_queues.specs.CellBins.{IsMemberForm, Stands}
use Rattle.tile_queues.proofs.Storing.{stands_here, met_here, row_is, stored_more}
use Rattle.tile_queues.proofs.cell_bin.store_in_row.Goals as goal

-- the tile stands in the row
pub store-requires-clause-form : goal.store-requires-clause-form
store-requires-clause-form g c =
    let n = c.row_start-start.result + (c.loop-column.column - c.args.window.first_column) in
    let is = row_number c.args.window c.args.window c.args.row c.loop-column.column c.row_start-start.result refl c.row_start-start.ensures in
    let list = c.args.member.now.list.now.list in
    let w = c.index-writers-number.result in
    let row = row_is c.args.member.now.cells.now list c.args.window c.args.span c.args.member.now.index c.args.row c.loop-column.column n c.loop-column.writers c.requires.window c.requires.part c.requires.row.0 c.requires.row.1 c.loop-column.auto.column c.loop-column-test.true is c.loop-column.invariant w c.index-writers-number.is in
    let here = subst (λ (r : ℕ). IsMemberForm list c.args.member.now.index r c.args.form) (sym row) c.requires.form in
    subst (λ (z : Writing). IsMemberForm list c.args.member.now.index (tile_place list.size z.tile).row c.args.form) c.index-writers-number.is here

pub store-requires-clause-met : goal.store-requires-clause-met
store-requires-clause-met g c =
    let n = c.row_start-start.result + (c.loop-column.column - c.args.window.first_column) in
    let is = row_number c.args.window c.args.window c.args.row c.loop-column.column c.row_start-start.result refl c.row_start-start.ensures in
    let w = c.index-writers-number.result in
    subst (λ (z : Writing). meets (box_of (piece_of_form c.args.form)) (tile_rect_of c.args.member.now.list.now.list.size z.tile) ≡ true) c.index-writers-number.is (met_here c.args.member.now.cells.now c.args.member.now.list.now.list c.args.window c.args.span c.args.member.now.index c.args.row c.loop-column.column n c.loop-column.writers c.requires.window c.requires.part c.requires.row.0 c.requires.row.1 c.loop-column.auto.column c.loop-column-test.true is c.loop-column.invariant (piece_of_form c.args.form) w c.index-writers-number.is c.requires.met)

pub store-requires-clause-stands : goal.store-requires-clause-stands
store-requires-clause-stands g c =
    let n = c.row_start-start.result + (c.loop-column.column - c.args.window.first_column) in
    let is = row_number c.args.window c.args.window c.args.row c.loop-column.column c.row_start-start.result refl c.row_start-start.ensures in
    let w = c.index-writers-number.result in
    subst (Stands c.args.member.now.cells.now c.args.member.now.list.now.list c.args.member.now.index) c.index-writers-number.is (stands_here c.args.member.now.cells.now c.args.member.now.list.now.list c.args.window c.args.span c.args.member.now.index c.args.row c.loop-column.column n c.loop-column.writers c.requires.window c.requires.part c.requires.row.0 c.requires.row.1 c.loop-column.auto.column c.loop-column-test.true is c.loop-column.invariant w c.index-writers-number.is)

pub loop-column-preserved : goal.loop-column-preserved
loop-column-preserved g c =
    let n = c.row_start-start.result + (c.loop-column.column - c.args.window.first_column) in
    let is = row_number c.args.window c.args.window c.args.row c.loop-column.column c.row_start-start.result refl c.row_start-start.ensures in
    let w = c.index-writers-number.result in
    let e = c.index-writers-number.is in
    let tile = subst (λ (z : Writing). c.store.new.writer.tile ≡ z.tile) (sym e) c.store.ensures.tile in
    stored_more c.args.member.now.cells.now c.args.member.now.list.now.list c.args.window c.args.span c.args.member.now.index c.args.row c.loop-column.column n c.loop-column.writers c.requires.window c.requires.part c.requires.row.0 c.requires.row.1 c.loop-column.auto.column c.loop-column-test.true is c.loop-column.invariant w c.store.new.writer e tile c.store.ensures.stands

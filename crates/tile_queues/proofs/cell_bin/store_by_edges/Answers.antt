use Rattle.std.proofs.Common.{◌≡◌, arith, sym, ap, ◌∙◌, subst}
use Rattle.std.specs.Prelude.{slice_index_or}
use Rattle.cull_base.specs.Piece.{Piece, covered}
use Rattle.cull_base.specs.Screen.{tile_rows_of}
use Rattle.masked_update.specs.Samples.{HoldsSampled}
use Rattle.tile_queues.specs.CellBins.{HasMet}
use Rattle.tile_queues.proofs.Storing.{row_stored, span_stored}
use Rattle.tile_queues.proofs.cell_bin.store_by_edges.Goals as goal

pub over_row-over-requires-clause-edges : goal.over_row-over-requires-clause-edges
over_row-over-requires-clause-edges g c u lc lr = c.requires.edges u lc lr ∙ ap (λ (y : Piece). covered y u) (sym c.of-piece.ensures.value)

pub over_row-over-requires-clause-row : goal.over_row-over-requires-clause-row
over_row-over-requires-clause-row g c =
    let rows = ap tile_rows_of c.requires.size in
    omega (arith, c.loop-row-test.true, c.requires.part.end_row, c.requires.window.rows_within, rows, c.tile_rows-rows.ensures.value, c.tile_rows-rows.ensures.small)

pub store_in_row-requires-clause-form : goal.store_in_row-requires-clause-form
store_in_row-requires-clause-form g c =
    let list = c.args.member.now.list.now.list in
    let same = sym c.of-piece.ensures.value in
    record {
      is = subst (λ (y : Piece). slice_index_or list.members c.args.member.now.index y ≡ y) same c.requires.is;
      formed = (subst (λ (y : Piece). HoldsSampled y c.args.reached.now) same c.requires.reached, c.requires.size, c.over_row-over.ensures);
    }

pub store_in_row-requires-clause-met : goal.store_in_row-requires-clause-met
store_in_row-requires-clause-met g c = subst (HasMet c.args.member.now.list.now.list.size c.args.window c.args.span) (sym c.of-piece.ensures.value) c.requires.met

pub loop-row-preserved : goal.loop-row-preserved
loop-row-preserved g c =
    row_stored c.args.member.now.cells.now c.args.member.now.list.now.list c.args.window c.args.span c.args.member.now.index c.loop-row.row c.store_in_row.new.writers c.loop-row.auto.row c.store_in_row.ensures

pub returns : goal.returns
returns g c =
    let end : c.loop-row.row ≡ c.args.span.end_row = omega (arith, c.loop-row-test.false, c.loop-row.auto.row-end, c.requires.part.rows) in
    span_stored c.args.member.now.cells.now c.args.member.now.list.now.list c.args.window c.args.span c.args.member.now.index c.loop-row.row c.loop-row.writers end c.loop-row.invariant

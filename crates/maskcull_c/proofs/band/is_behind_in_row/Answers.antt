use Rattle.std.proofs.Common.{◌≡◌, arith, refl, ap, ◌∙◌, subst}
use Rattle.std.proofs.lemmas.Bool.{both_ways}
use Rattle.masked_update.specs.Least.{NoneBelow}
use Rattle.masked_update.specs.TileOf.{tile_at}
use Rattle.masked_update.specs.Walk.{NoneBelowWhere, is_in_row}
use Rattle.masked_update.proofs.Tiles.{number_within, tile_with}
use Rattle.masked_update.proofs.Walks.{columns_before, held_in_row, row_begins, row_here, row_number}
use Rattle.maskcull_c.specs.Bands.{band_of}
use Rattle.maskcull_c.proofs.Bands.{read_at}
use Rattle.maskcull_c.proofs.band.is_behind_in_row.Goals as goal

pub loop-column-init : goal.loop-column-init
loop-column-init c p h on = absurd (both_ways _ (row_begins c.args.span c.args.row p) on)

pub loop-column-preserved : goal.loop-column-preserved
loop-column-preserved c =
    let window = c.args.window in
    let tiles = c.args.tiles.now in
    let q = tile_with c.loop-column.column c.args.row in
    let number = row_number window window c.args.row c.loop-column.column c.row_start-start.result refl c.row_start-start.ensures in
    let here = row_here window c.args.span c.args.row c.loop-column.column c.requires.part c.requires.row.0 c.requires.row.1 c.loop-column.auto.column c.loop-column-test.true in
    let within = number_within window q here in
    let read = read_at tiles _ c.index-tiles-number.result (omega (arith, number, within, c.requires.whole)) c.index-tiles-number.is in
    let behind = subst (NoneBelow c.args.nearest) (read ∙ ap (tile_at tiles) number) (c.is_behind.ensures c.if-not-is_behind.false) in
    held_in_row c.args.span (NoneBelow c.args.nearest) (band_of window tiles) q c.loop-column.invariant behind

pub returns : goal.returns
returns c =
    let span = c.args.span in
    let end : c.loop-column.column ≡ span.end_column = omega (arith, c.loop-column-test.false, c.loop-column.auto.column-end, c.requires.part.columns) in
    λ _. subst (λ n. NoneBelowWhere c.args.nearest (is_in_row (columns_before span n) c.args.row) (band_of c.args.window c.args.tiles.now)) end c.loop-column.invariant

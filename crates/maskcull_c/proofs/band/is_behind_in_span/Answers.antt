use Rattle.std.proofs.Common.{◌≡◌, arith, subst}
use Rattle.std.proofs.lemmas.Bool.{both_ways}
use Rattle.cull_base.specs.Span.{has_tile}
use Rattle.masked_update.specs.Least.{NoneBelow}
use Rattle.masked_update.specs.Walk.{NoneBelowWhere}
use Rattle.masked_update.proofs.Walks.{rows_before, rows_begin, held_in_rows}
use Rattle.maskcull_c.specs.Bands.{band_of}
use Rattle.maskcull_c.proofs.band.is_behind_in_span.Goals as goal

pub loop-row-init : goal.loop-row-init
loop-row-init c p h on = absurd (both_ways _ (rows_begin c.args.span p) on)

pub loop-row-preserved : goal.loop-row-preserved
loop-row-preserved c =
    held_in_rows c.args.span (NoneBelow c.args.nearest) (band_of c.args.window c.args.tiles.now) c.loop-row.row c.loop-row.invariant (c.is_behind_in_row.ensures c.if-not-is_behind_in_row.false)

pub returns : goal.returns
returns c =
    let span = c.args.span in
    let end : c.loop-row.row ≡ span.end_row = omega (arith, c.loop-row-test.false, c.loop-row.auto.row-end, c.requires.part.rows) in
    λ _. subst (λ n. NoneBelowWhere c.args.nearest (has_tile (rows_before span n)) (band_of c.args.window c.args.tiles.now)) end c.loop-row.invariant

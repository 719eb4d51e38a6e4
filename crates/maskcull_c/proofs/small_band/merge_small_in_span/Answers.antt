use Rattle.std.proofs.Common.{◌≡◌, arith, subst}
use Rattle.cull_base.specs.Span.{has_tile}
use Rattle.masked_update.specs.Taken.{merged_tile}
use Rattle.masked_update.specs.Walk.{MergedWhere}
use Rattle.masked_update.proofs.Walks.{rows_before, none_changed, rows_begin, rows_more}
use Rattle.maskcull_c.specs.Bands.{band_of}
use Rattle.maskcull_c.proofs.small_band.merge_small_in_span.Goals as goal

pub loop-row-init : goal.loop-row-init
loop-row-init c =
    none_changed (has_tile (rows_before c.args.span c.args.span.first_row)) (λ p t. merged_tile c.args.reached.now.size p c.args.piece.now t) (band_of c.args.window c.args.tiles.now) c.requires.whole (rows_begin c.args.span)

pub loop-row-preserved : goal.loop-row-preserved
loop-row-preserved c =
    rows_more c.args.span (λ p t. merged_tile c.args.reached.now.size p c.args.piece.now t) (band_of c.args.window c.args.tiles.now) (band_of c.args.window c.loop-row.tiles) (band_of c.args.window c.merge_small_in_row.new.tiles) c.loop-row.row c.loop-row.auto.row c.loop-row.invariant c.merge_small_in_row.ensures

pub returns : goal.returns
returns c =
    let span = c.args.span in
    let end : c.loop-row.row ≡ span.end_row = omega (arith, c.loop-row-test.false, c.loop-row.auto.row-end, c.requires.part.rows) in
    subst (λ n. MergedWhere (has_tile (rows_before span n)) c.args.reached.now.size c.args.piece.now (band_of c.args.window c.args.tiles.now) (band_of c.args.window c.loop-row.tiles)) end c.loop-row.invariant

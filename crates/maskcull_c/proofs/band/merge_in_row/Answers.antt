use Rattle.std.proofs.Common.{◌≡◌, ◌+◌, ◌-◌, set, arith, refl, ap, ◌∙◌, subst}
use Rattle.std.proofs.lemmas.List.{get_or_default}
use Rattle.cull_base.specs.declared.place.Tile.{Tile}
use Rattle.masked_update.specs.Taken.{merged_tile}
use Rattle.masked_update.specs.TileOf.{TileOf, no_tile}
use Rattle.masked_update.specs.Walk.{MergedWhere, is_in_row}
use Rattle.masked_update.proofs.Tiles.{tile_with}
use Rattle.masked_update.proofs.Walks.{columns_before, none_changed, number_inside, row_begins, row_here, row_more, row_number}
use Rattle.maskcull_c.specs.Bands.{band_of}
use Rattle.maskcull_c.proofs.band.merge_in_row.Goals as goal

pub loop-column-init : goal.loop-column-init
loop-column-init c =
    none_changed (is_in_row (columns_before c.args.span c.args.span.first_column) c.args.row) (λ p t. merged_tile c.args.reached.now.size p c.args.piece.now t) (band_of c.args.window c.args.tiles.now) c.requires.whole (row_begins c.args.span c.args.row)

pub loop-column-preserved : goal.loop-column-preserved
loop-column-preserved c =
    let window = c.args.window in
    let span = c.args.span in
    let tiles = c.loop-column.tiles in
    let q = tile_with c.loop-column.column c.args.row in
    let n = c.row_start-start.result + (c.loop-column.column - window.first_column) in
    let f = λ (p : Tile) (t : TileOf). merged_tile c.args.reached.now.size p c.args.piece.now t in
    let here = row_here window span c.args.row c.loop-column.column c.requires.part c.requires.row.0 c.requires.row.1 c.loop-column.auto.column c.loop-column-test.true in
    let number = row_number window window c.args.row c.loop-column.column c.row_start-start.result refl c.row_start-start.ensures in
    let inside = number_inside (is_in_row (columns_before span c.loop-column.column) c.args.row) f (band_of window c.args.tiles.now) (band_of window tiles) q c.loop-column.invariant here in
    let read = get_or_default tiles n c.index-tiles-number.result no_tile (omega (arith, number, inside)) in
    let step = ap (λ (s : TileOf). band_of window (set tiles n s)) (c.merge_ahead.ensures ∙ ap (f q) read) in
    row_more span f (band_of window c.args.tiles.now) (band_of window tiles) (band_of window (set tiles n c.merge_ahead.new.self)) q n here number c.loop-column.auto.column c.loop-column.invariant step

pub returns : goal.returns
returns c =
    let span = c.args.span in
    let end : c.loop-column.column ≡ span.end_column = omega (arith, c.loop-column-test.false, c.loop-column.auto.column-end, c.requires.part.columns) in
    subst (λ n. MergedWhere (is_in_row (columns_before span n) c.args.row) c.args.reached.now.size c.args.piece.now (band_of c.args.window c.args.tiles.now) (band_of c.args.window c.loop-column.tiles)) end c.loop-column.invariant

use Rattle.std.proofs.Common.{◌≡◌, arith, subst}
use Rattle.std.proofs.lemmas.Bool.{both_ways}
use Rattle.masked_update.specs.TileOf.{tile_at}
use Rattle.masked_update.specs.Taken.{merged_tile}
use Rattle.masked_update.proofs.Merging.{stays_unwanted}
use Rattle.masked_update.proofs.Tiles.{number_within, tile_with}
use Rattle.masked_update.proofs.Walks.{in_row_before, row_begins, row_here, row_number, stay_in_row}
use Rattle.masked_update.proofs.walk.is_wanted_in_row.Goals as goal

pub loop-column-init : goal.loop-column-init
loop-column-init c = record { from = omega arith; stay = λ p h on. absurd (both_ways _ (row_begins c.args.span c.args.row p) on) }

pub wanted-requires-clause-tile : goal.wanted-requires-clause-tile
wanted-requires-clause-tile c =
    let old = c.args.canvas.now in
    let span = c.args.span in
    let inv = c.loop-column.invariant in
    let here = row_here old.window span c.args.row c.loop-column.column c.requires.part c.requires.row.0 c.requires.row.1 inv.from c.loop-column-test.true in
    let number = row_number old.window c.window-window.result c.args.row c.loop-column.column c.row_start-start.result c.window-window.ensures.value c.row_start-start.ensures in
    let inside = number_within old.window (tile_with c.loop-column.column c.args.row) here in
    let whole = c.window-window.ensures.whole in
    omega (arith, number, inside, whole)

pub loop-column-preserved : goal.loop-column-preserved
loop-column-preserved c =
    let old = c.args.canvas.now in
    let span = c.args.span in
    let x = c.args.tri.now in
    let size = c.args.reached.now.size in
    let q = tile_with c.loop-column.column c.args.row in
    let inv = c.loop-column.invariant in
    let number = row_number old.window c.window-window.result c.args.row c.loop-column.column c.row_start-start.result c.window-window.ensures.value c.row_start-start.ensures in
    let stays = stays_unwanted size q x c.wanted.result (tile_at old.tiles _) c.wanted.ensures.eight c.if-wanted-ne0.false c.wanted.ensures.wanted in
    record {
      from = omega (arith, inv.from);
      stay = stay_in_row span size x old q inv.stay (subst (λ n. merged_tile size q x (tile_at old.tiles n) ≡ tile_at old.tiles n) number stays);
    }

pub returns : goal.returns
returns c is p h on =
    c.loop-column.invariant.stay p h (in_row_before c.args.span c.args.row c.loop-column.column p (omega (arith, c.loop-column-test.false)) on)

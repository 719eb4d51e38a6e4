use Rattle.std.proofs.Common.{◌≡◌, ◌+◌, ◌-◌, arith, subst, sym}
use Rattle.cull_base.specs.Piece.{Piece}
use Rattle.cull_base.specs.Span.{has_tile}
use Rattle.cull_base.specs.declared.place.Tile.{Tile}
use Rattle.masked_update.specs.Canvas.{tile_on, with_tile}
use Rattle.masked_update.specs.Coverage.{AreWanted}
use Rattle.masked_update.specs.Taken.{merged_tile}
use Rattle.masked_update.specs.TileOf.{tile_at}
use Rattle.masked_update.proofs.Merging.{stays_unwanted}
use Rattle.masked_update.proofs.Tiles.{number_within, tile_with}
use Rattle.masked_update.proofs.Walks.{merged_where_stays, one_changed, one_of_span, row_here, row_number}
use Rattle.masked_update.proofs.walk.merge_in_tile.Goals as goal

pub wanted-wanted-requires-clause-tile : goal.wanted-wanted-requires-clause-tile
wanted-wanted-requires-clause-tile c =
    let old = c.args.canvas.now in
    let span = c.args.span in
    let here = row_here old.window span span.first_row span.first_column c.requires.part (omega arith) (omega (arith, c.requires.row)) (omega arith) (omega (arith, c.requires.column)) in
    let number = row_number old.window c.window-window.result span.first_row span.first_column c.row_start-start.result c.window-window.ensures.value c.row_start-start.ensures in
    let inside = number_within old.window (tile_with span.first_column span.first_row) here in
    let whole = c.window-window.ensures.whole in
    omega (arith, number, inside, whole)

pub returns-then-wanted-eq0 : goal.returns-then-wanted-eq0
returns-then-wanted-eq0 c =
    let old = c.args.canvas.now in
    let span = c.args.span in
    let x = c.args.tri.now in
    let size = c.args.reached.now.size in
    let q = tile_with span.first_column span.first_row in
    let number = row_number old.window c.window-window.result span.first_row span.first_column c.row_start-start.result c.window-window.ensures.value c.row_start-start.ensures in
    let stays = stays_unwanted size q x c.wanted-wanted.result (tile_at old.tiles _) c.wanted-wanted.ensures.eight c.if-wanted-eq0.true c.wanted-wanted.ensures.wanted in
    let there = subst (λ n. merged_tile size q x (tile_at old.tiles n) ≡ tile_at old.tiles n) number stays in
    merged_where_stays (has_tile span) size x old c.window-window.ensures.whole
    (λ p h on. subst (λ (r : Tile). merged_tile size r x (tile_on old r) ≡ tile_on old r) (sym (one_of_span span p c.requires.column c.requires.row on)) there)

pub merge_among-requires-clause-wanted : goal.merge_among-requires-clause-wanted
merge_among-requires-clause-wanted c =
    let q = tile_with c.args.span.first_column c.args.span.first_row in
    let n = c.row_start-start.result + (c.args.span.first_column - c.window-window.result.first_column) in
    subst (λ (y : Piece). AreWanted c.args.reached.now.size q y (tile_at c.args.canvas.now.tiles n).subs c.wanted-wanted.result) (sym c.in-Some.ensures) c.wanted-wanted.ensures.wanted

pub returns-in-Some : goal.returns-in-Some
returns-in-Some c =
    let old = c.args.canvas.now in
    let span = c.args.span in
    let x = c.args.tri.now in
    let size = c.args.reached.now.size in
    let q = tile_with span.first_column span.first_row in
    let here = row_here old.window span span.first_row span.first_column c.requires.part (omega arith) (omega (arith, c.requires.row)) (omega arith) (omega (arith, c.requires.column)) in
    let number = row_number old.window c.window-window.result span.first_row span.first_column c.row_start-start.result c.window-window.ensures.value c.row_start-start.ensures in
    let n = c.row_start-start.result + (span.first_column - c.window-window.result.first_column) in
    let step = subst (λ (y : Piece). c.merge_among.new.self ≡ with_tile old n (merged_tile size q y (tile_at old.tiles n))) c.in-Some.ensures c.merge_among.ensures in
    one_changed span (λ p t. merged_tile size p x t) old c.merge_among.new.self n c.requires.column c.requires.row c.window-window.ensures.whole here number step

use Rattle.std.proofs.Common.{◌≡◌, ◌+◌, ◌*◌, ℕ, arith, refl, ap, subst}
use Rattle.cull_base.specs.Piece.{box_of}
use Rattle.masked_update.specs.Views.{state_in}
use Rattle.mesh_query.specs.Asked.{Asked, TouchedIn}
use Rattle.mesh_query.proofs.TileParts.{BeforeTile, tile_more, tile_shows, held_there, row_none, row_all}
use Rattle.mesh_query.proofs.piece.MeshPiece.ask_row.Goals as goal

pub ask_tile-requires-clause-holds : goal.ask_tile-requires-clause-holds
ask_tile-requires-clause-holds g c =
    held_there (g.V.TileView.held c.args.view.now) c.args.size (box_of c.args.self.now) c.args.span c.args.row c.loop-column.column c.tile_columns.result c.tile_columns.ensures.value
    c.requires.span c.requires.tiles c.requires.holds c.requires.first c.requires.end c.loop-column.auto.column c.loop-column-test.true

pub returns-in_err-touched : goal.returns-in_err-touched
returns-in_err-touched g c =
    let tile_of = g.V.TileView.tile_of c.args.view.now in
    let is = ap (λ (n : ℕ). tile_of (c.args.row * n + c.loop-column.column)) c.tile_columns.ensures.value in
    rw (c.from_residual.ensures)
    (tile_shows c.args.size c.args.self.now tile_of (tile_of (c.args.row * c.tile_columns.result + c.loop-column.column)) (record { column = c.loop-column.column; row = c.args.row }) c.args.row c.loop-column.column refl is c.in_err-touched.ensures)

pub loop-column-init : goal.loop-column-init
loop-column-init g c = row_none c.args.size c.args.self.now (g.V.TileView.tile_of c.args.view.now) c.args.span c.args.row c.args.known c.requires.valid c.requires.tiles

pub loop-column-preserved : goal.loop-column-preserved
loop-column-preserved g c =
    let tile_of = g.V.TileView.tile_of c.args.view.now in
    let is = ap (λ (n : ℕ). tile_of (c.args.row * n + c.loop-column.column)) c.tile_columns.ensures.value in
    tile_more c.args.size c.args.self.now tile_of (tile_of (c.args.row * c.tile_columns.result + c.loop-column.column)) (record { column = c.loop-column.column; row = c.args.row }) c.args.row c.loop-column.column c.args.known c.loop-column.touched c.in_ok-touched.touched refl is
    c.loop-column.invariant c.in_ok-touched.ensures

pub returns : goal.returns
returns g c =
    let tile_of = g.V.TileView.tile_of c.args.view.now in
    let end : c.loop-column.column ≡ c.args.span.end_column = omega (arith, c.loop-column-test.false, c.loop-column.auto.column-end, c.requires.span.columns) in
    row_all c.args.size c.args.self.now tile_of c.args.span c.args.row c.args.known c.loop-column.touched c.requires.valid c.requires.tiles
    (subst (λ (n : ℕ). Asked (state_in c.args.size tile_of) (TouchedIn c.args.size c.args.self.now (BeforeTile c.args.row n)) c.args.known c.loop-column.touched) end c.loop-column.invariant)

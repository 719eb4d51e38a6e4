use Rattle.std.proofs.Common.{◌≡◌, ℕ, arith, subst}
use Rattle.cull_base.specs.Piece.{box_of}
use Rattle.cull_base.specs.Span.{HasTilesOf}
use Rattle.masked_update.specs.Views.{state_in}
use Rattle.mesh_query.specs.Asked.{Asked, TouchedIn}
use Rattle.mesh_query.proofs.TileParts.{BeforeRow, row_more, row_shows, rows_none, rows_all}
use Rattle.mesh_query.proofs.piece.MeshPiece.ask.Goals as goal

pub returns-in_err-touched : goal.returns-in_err-touched
returns-in_err-touched g c =
    rw (c.from_residual.ensures) (row_shows c.args.size c.args.self.now (g.V.TileView.tile_of c.args.view.now) c.loop-row.row c.in_err-touched.ensures)

pub loop-row-init : goal.loop-row-init
loop-row-init g c =
    let tiles : HasTilesOf c.of-span.result c.args.size (box_of c.args.self.now) = subst (HasTilesOf c.of-span.result c.args.size) c.requires.reached c.of-span.ensures.tiles in
    rows_none c.args.size c.args.self.now (g.V.TileView.tile_of c.args.view.now) c.of-span.result c.args.known c.requires.valid tiles

pub loop-row-preserved : goal.loop-row-preserved
loop-row-preserved g c =
    row_more c.args.size c.args.self.now (g.V.TileView.tile_of c.args.view.now) c.loop-row.row c.args.known c.loop-row.touched c.in_ok-touched.touched c.loop-row.invariant c.in_ok-touched.ensures

pub returns : goal.returns
returns g c =
    let tile_of = g.V.TileView.tile_of c.args.view.now in
    let tiles : HasTilesOf c.of-span.result c.args.size (box_of c.args.self.now) = subst (HasTilesOf c.of-span.result c.args.size) c.requires.reached c.of-span.ensures.tiles in
    let end : c.loop-row.row ≡ c.of-span.result.end_row = omega (arith, c.loop-row-test.false, c.loop-row.auto.row-end, c.of-span.ensures.span.rows) in
    rows_all c.args.size c.args.self.now tile_of c.of-span.result c.args.known c.loop-row.touched c.requires.valid tiles
    (subst (λ (n : ℕ). Asked (state_in c.args.size tile_of) (TouchedIn c.args.size c.args.self.now (BeforeRow n)) c.args.known c.loop-row.touched) end c.loop-row.invariant)

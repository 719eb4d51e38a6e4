use Rattle.std.proofs.Common.{◌≡◌, arith, ap, ◌∙◌}
use Rattle.cull_base.specs.Depth.{greatest_nearness}
use Rattle.cull_base.specs.Piece.{Piece}
use Rattle.mesh_query.proofs.Subtiles.{by_references}
use Rattle.mesh_query.proofs.piece.MeshPiece.ask_tile.Goals as goal

pub returns-then-self-least_reference : goal.returns-then-self-least_reference
returns-then-self-least_reference g c =
    let t = c.args.self.now in
    let nearest : c.self.inside.nearest ≡ greatest_nearness t = c.self.invariant.nearest_is ∙ ap (λ (x : Piece). greatest_nearness x) c.self.view_is in
    by_references c.args.size t c.args.place (g.V.TileView.tile_of c.args.view.now c.args.tile) c.least_reference.result c.args.known c.if-known.true c.least_reference.ensures.least c.least_reference.ensures.layered
    (omega (arith, nearest, c.if-self-least_reference.true))

use Rattle.std.proofs.Common.{◌≡◌, arith, ap, ◌∙◌}
use Rattle.std.proofs.lemmas.Bool.{both_ways}
use Rattle.cull_base.specs.Depth.{greatest_nearness, high_of}
use Rattle.cull_base.specs.Piece.{Piece}
use Rattle.edge_lanes.specs.Inside.{sub_of}
use Rattle.edge_lanes.specs.Tiles.{inside_at}
use Rattle.mesh_query.proofs.Subtiles.{high-le, by_reference, by_empty_mask, by_mask, one_shows}
use Rattle.mesh_query.proofs.piece.MeshPiece.ask_subtile.Goals as goal

pub returns-then-self-reference : goal.returns-then-self-reference
returns-then-self-reference c =
    let t = c.args.self.now in let u = sub_of c.args.tile.now.place c.args.j in
    let nearest : c.self.inside.nearest ≡ greatest_nearness t = c.self.invariant.nearest_is ∙ ap (λ (x : Piece). greatest_nearness x) c.self.view_is in
    by_reference c.args.size t u c.args.sub_tile.now c.args.known c.if-known.true c.reference-reference.ensures.layered
    (omega (arith, high-le t u, nearest, c.reference-reference.ensures.value, c.if-self-reference.true))

pub returns-then-high-reference : goal.returns-then-high-reference
returns-then-high-reference c =
    let t = c.args.self.now in let u = sub_of c.args.tile.now.place c.args.j in
    let high : c.high-high.result ≡ high_of t u = c.high-high.ensures.value ∙ ap (λ (x : Piece). high_of x u) c.self.view_is in
    by_reference c.args.size t u c.args.sub_tile.now c.args.known c.if-known-2.true c.reference-reference.ensures.layered
    (omega (arith, high, c.reference-reference.ensures.value, c.if-high-reference.true))

pub returns-then-mask-eq0 : goal.returns-then-mask-eq0
returns-then-mask-eq0 c =
    let mask = c.mask_beside-mask.ensures.samples ∙ ap (inside_at c.args.tile.now.edges) c.from.ensures ∙ c.requires.edges in
    by_empty_mask c.args.size c.args.self.now (sub_of c.args.tile.now.place c.args.j) c.args.sub_tile.now c.mask_beside-mask.result c.args.known mask c.if-mask-eq0.true

pub returns-then-hides : goal.returns-then-hides
returns-then-hides c =
    let t = c.args.self.now in let u = sub_of c.args.tile.now.place c.args.j in
    let mask = c.mask_beside-mask.ensures.samples ∙ ap (inside_at c.args.tile.now.edges) c.from.ensures ∙ c.requires.edges in
    let high : c.high-high.result ≡ high_of t u = c.high-high.ensures.value ∙ ap (λ (x : Piece). high_of x u) c.self.view_is in
    by_mask c.args.size t u c.args.sub_tile.now c.mask_beside-mask.result c.high-high.result c.args.known c.requires.sized c.requires.on_screen mask c.mask_beside-mask.type_inv c.if-mask-eq0.false high (c.hides.ensures.0 c.if-hides.true)

pub returns : goal.returns
returns c =
    let t = c.args.self.now in let u = sub_of c.args.tile.now.place c.args.j in
    let mask = c.mask_beside-mask.ensures.samples ∙ ap (inside_at c.args.tile.now.edges) c.from.ensures ∙ c.requires.edges in
    let high : c.high-high.result ≡ high_of t u = c.high-high.ensures.value ∙ ap (λ (x : Piece). high_of x u) c.self.view_is in
    one_shows c.args.size t u c.args.sub_tile.now c.mask_beside-mask.result c.high-high.result c.requires.sized c.requires.on_screen mask high (λ all. both_ways c.hides.result c.if-hides.false (c.hides.ensures.1 all))

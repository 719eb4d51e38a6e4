use Rattle.std.proofs.Common.{◌∙◌, ◌<◌, ap, arith, subst}
use Rattle.cull_base.specs.Depth.{least_nearness}
use Rattle.cull_base.specs.Piece.{Piece}
use Rattle.edge_lanes.specs.Rows.{inside_in}
use Rattle.masked_update.specs.Coverage.{IsRaised}
use Rattle.masked_update.proofs.Covering.{covered_in_row}
use Rattle.masked_update.proofs.Merging.{merged_all}
use Rattle.masked_update.proofs.piece_setup.PieceDepths.merge_over.Goals as goal

pub coverage-requires-clause-masks : goal.coverage-requires-clause-masks
coverage-requires-clause-masks c j lt =
    let place = c.args.place in
    let sized = c.width-width.ensures.valid in
    let small : place.row < 256 = omega (arith, c.requires.row, sized.within_height) in
    let within : place.column < 64 = omega (arith, c.requires.column, sized.within_width) in
    c.masks-masks.ensures.samples j lt ∙ ap (λ n. inside_in c.args.over.now n j) c.from.ensures
    ∙ covered_in_row c.args.over.now place.row c.args.self.now place.column j c.requires.over small within lt

pub returns : goal.returns
returns c =
    let least = c.self.invariant.least_is ∙ ap (λ (t : Piece). least_nearness t) c.self.view_is in
    merged_all c.args.reached.now.size c.args.place c.args.self.now c.subtiles_on_screen-wanted.result c.coverage.result c.raised.result c.args.layers.now c.merge.new.self
    (c.subtiles_on_screen-wanted.ensures.wanted c.args.layers.now) c.coverage.ensures (subst (λ q. IsRaised q c.coverage.result c.raised.result) least c.raised.ensures) c.merge.ensures

use Rattle.std.proofs.Common.{◌≡◌, ◌∙◌, ◌≤◌, ap, sym, subst, slice_index_or}
use Rattle.cull_base.specs.Depth.{greatest_nearness}
use Rattle.cull_base.specs.State.{empty_state}
use Rattle.cull_base.specs.Piece.{Piece, IsPiece, box_of}
use Rattle.masked_update.specs.Merged.{IsSubSpan}
use Rattle.masked_update.specs.declared.sub_span.SubSpan.{SubSpan}
use Rattle.masked_update.proofs.Wanting.{behind_of}
use Rattle.masked_update.proofs.piece_setup.PieceDepths.subtiles_behind.Goals as goal

pub returns-clause-wanted : goal.returns-clause-wanted
returns-clause-wanted c =
    let x = c.args.self.now in
    let nearest : c.self.inside.nearest ≡ greatest_nearness x = c.self.invariant.nearest_is ∙ ap (λ (t : Piece). greatest_nearness t) c.self.view_is in
    behind_of c.args.reached.now.size c.args.place x c.args.layers.now c.in_tile.result c.bits.result c.below.result
    (subst IsPiece c.self.view_is c.self.invariant.valid) (subst (λ (s : SubSpan). IsSubSpan (box_of x) c.args.reached.now.size c.args.place s) (sym c.in_tile.ensures) (c.requires c.args.place))
    c.bits.ensures.value
    (λ j lt clear. subst (λ q. q ≤ (slice_index_or c.args.layers.now j empty_state).reference) nearest (c.below.ensures.behind j lt clear))

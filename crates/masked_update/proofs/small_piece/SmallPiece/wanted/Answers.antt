use Rattle.std.proofs.Common.{arith, ◌≡◌, ◌≤◌, ◌∙◌, ap, sym, subst, slice_index_or}
use Rattle.std.proofs.lemmas.Nat.{and_le_l}
use Rattle.cull_base.specs.Depth.{greatest_nearness}
use Rattle.cull_base.specs.Piece.{Piece, IsPiece}
use Rattle.cull_base.specs.State.{empty_state}
use Rattle.masked_update.specs.Merged.{IsSubSpan}
use Rattle.masked_update.specs.declared.sub_span.SubSpan.{SubSpan}
use Rattle.masked_update.proofs.SampledSubs.{sampled_behind}
use Rattle.masked_update.proofs.small_piece.SmallPiece.wanted.Goals as goal

pub returns-clause-wanted : goal.returns-clause-wanted
returns-clause-wanted c =
    let x = c.args.self.now in
    let (r, holds, is) = c.requires in
    let nearest : c.self.inside.nearest ≡ greatest_nearness x = c.self.invariant.nearest_is ∙ ap (λ (t : Piece). greatest_nearness t) c.self.view_is in
    sampled_behind c.args.reached.now.size c.args.place x c.args.layers.now c.in_tile.result r c.bits.result c.below.result
    (subst IsPiece c.self.view_is c.self.invariant.valid) holds (subst (λ (s : SubSpan). IsSubSpan r c.args.reached.now.size c.args.place s) (sym c.in_tile.ensures) (is c.args.place))
    c.bits.ensures.value
    (λ j lt clear. subst (λ q. q ≤ (slice_index_or c.args.layers.now j empty_state).reference) nearest (c.below.ensures.behind j lt clear))

pub returns-clause-byte : goal.returns-clause-byte
returns-clause-byte c = let le = and_le_l c.bits.result c.below.result in let byte = c.bits.ensures.byte in omega (arith, le, byte)

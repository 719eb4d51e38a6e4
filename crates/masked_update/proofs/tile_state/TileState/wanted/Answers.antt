use Rattle.std.proofs.Common.{arith, ◌≤◌, bit_and, sym, subst, slice_index_or}
use Rattle.std.proofs.lemmas.Nat.{and_le_l}
use Rattle.cull_base.specs.State.{empty_state}
use Rattle.masked_update.specs.Coverage.{AreWanted}
use Rattle.masked_update.specs.Merged.{IsSubSpan}
use Rattle.masked_update.specs.TileOf.{TileOf}
use Rattle.masked_update.specs.declared.sub_span.SubSpan.{SubSpan}
use Rattle.masked_update.proofs.SampledSubs.{sampled_behind}
use Rattle.masked_update.proofs.tile_state.TileState.wanted.Goals as goal

pub returns-clause-wanted : goal.returns-clause-wanted
returns-clause-wanted c =
    let x = c.args.tri.now in
    let subs = c.self.inside.layers in
    let (r, holds, is) = c.requires in
    subst (λ (t : TileOf). AreWanted c.args.reached.now.size c.args.place x t.subs (bit_and c.bits.result c.below.result)) c.self.view_is
    (sampled_behind c.args.reached.now.size c.args.place x subs c.in_tile.result r c.bits.result c.below.result
    c.greatest_nearness.ensures.valid holds (subst (λ (s : SubSpan). IsSubSpan r c.args.reached.now.size c.args.place s) (sym c.in_tile.ensures) (is c.args.place))
    c.bits.ensures.value
    (λ j lt clear. subst (λ q. q ≤ (slice_index_or subs j empty_state).reference) c.greatest_nearness.ensures.value (c.below.ensures.behind j lt clear)))

pub returns-clause-byte : goal.returns-clause-byte
returns-clause-byte c = let le = and_le_l c.bits.result c.below.result in let byte = c.bits.ensures.byte in omega (arith, le, byte)

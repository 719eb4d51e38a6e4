use Rattle.std.proofs.Common.{sym, subst}
use Rattle.masked_update.specs.Merged.{IsSubSpan}
use Rattle.masked_update.specs.declared.sub_span.SubSpan.{SubSpan}
use Rattle.masked_update.proofs.SampledSubs.{sampled_reached}
use Rattle.masked_update.proofs.piece_setup.PieceDepths.subtiles_reached.Goals as goal

pub returns-clause-wanted : goal.returns-clause-wanted
returns-clause-wanted c subs =
    let (r, holds, is) = c.requires in
    sampled_reached c.args.reached.now.size c.args.place c.args.self.now subs c.in_tile.result r c.bits.result holds
    (subst (λ (s : SubSpan). IsSubSpan r c.args.reached.now.size c.args.place s) (sym c.in_tile.ensures) (is c.args.place)) c.bits.ensures.value

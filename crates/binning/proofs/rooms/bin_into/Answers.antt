use Rattle.std.proofs.Common.{◌<◌, length, arith, sym, subst, ◌∙◌}
use Rattle.binning.specs.Rooms.{ChangedEach, offered}
use Rattle.binning.proofs.Filling.{filled_first, filled_next, around_filled}
use Rattle.binning.proofs.rooms.bin_into.Goals as goal

pub loop-index-init : goal.loop-index-init
loop-index-init c = filled_first c.args.list.now.list.members c.args.from c.args.rooms.now c.empty_all.new.rooms c.empty_all.ensures

pub offer_near-requires : goal.offer_near-requires
offer_near-requires c =
    around_filled c.args.around.now c.args.list.now.list.members c.args.from c.loop-index.index c.args.rooms.now c.loop-index.rooms (c.loop-index.auto.rooms ∙ c.empty_all.auto.rooms) c.loop-index.invariant c.requires.around

pub loop-index-preserved : goal.loop-index-preserved
loop-index-preserved c =
    let members = c.args.list.now.list.members in
    let index = c.loop-index.index in
    let lt : index < length members = omega (arith, c.loop-index-test.true, c.requires.within) in
    let offer = subst (λ b. ChangedEach (offered b index) c.loop-index.rooms c.offer_near.new.rooms) c.boxed.ensures c.in_ok-offer_near.ensures in
    filled_next members c.args.from index c.get.result.now c.args.rooms.now c.loop-index.rooms c.offer_near.new.rooms (c.loop-index.auto.rooms ∙ c.empty_all.auto.rooms) c.loop-index.auto.index lt (sym c.get.ensures) c.loop-index.invariant offer

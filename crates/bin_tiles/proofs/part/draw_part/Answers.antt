use Rattle.std.proofs.Common.{◌+◌, get_or, arith, subst}
use Rattle.cull_base.specs.Screen.{Dimensions, IsSize}
use Rattle.binning.proofs.BinSpans.{bin_is_span}
use Rattle.bin_tiles.proofs.Counting.{drawn_within}
use Rattle.bin_tiles.proofs.PlacesInTurn.{first_turn, next_turn, last_turn}
use Rattle.bin_tiles.proofs.part.draw_part.Goals as goal

pub loop-index-init : goal.loop-index-init
loop-index-init g c =
    let sized = subst (λ (s : Dimensions). IsSize s.width s.height) c.size.ensures c.width-width.ensures.valid in
    first_turn g.K.Keeper.stands g.met.K.Keeper.passes c.args.screen.now.beside.now c.args.screen.now.list.now.list c.args.screen.now.cut.now c.args.bin sized c.columns-columns.ensures.valid c.args._from c.args._to c.args.taken c.args.indices.now c.args.keeper.now c.requires.order c.requires.places c.requires.taken c.requires.stands

pub draw_next-requires-clause-index : goal.draw_next-requires-clause-index
draw_next-requires-clause-index g c κs within =
    let sized = subst (λ (s : Dimensions). IsSize s.width s.height) c.size.ensures c.width-width.ensures.valid in
    let next = next_turn g.K.Keeper.stands g.met.K.Keeper.passes c.args.screen.now.beside.now c.args.screen.now.list.now.list c.args.screen.now.cut.now c.args.bin sized c.columns-columns.ensures.valid c.args._to c.loop-index.index-index c.loop-index.drawn c.args.indices.now c.loop-index.keeper c.loop-index-test.true c.loop-index.invariant in
    let below = next.below in
    omega (arith, below, c.requires.within)

pub draw_next-requires-clause-window : goal.draw_next-requires-clause-window
draw_next-requires-clause-window g c κs within = bin_is_span c.args.screen.now.list.now.list.size c.args.screen.now.cut.now c.args.bin c.columns-columns.ensures.valid c.requires.bin

pub draw_next-requires-clause-taken : goal.draw_next-requires-clause-taken
draw_next-requires-clause-taken g c κs within =
    let sized = subst (λ (s : Dimensions). IsSize s.width s.height) c.size.ensures c.width-width.ensures.valid in
    let next = next_turn g.K.Keeper.stands g.met.K.Keeper.passes c.args.screen.now.beside.now c.args.screen.now.list.now.list c.args.screen.now.cut.now c.args.bin sized c.columns-columns.ensures.valid c.args._to c.loop-index.index-index c.loop-index.drawn c.args.indices.now c.loop-index.keeper c.loop-index-test.true c.loop-index.invariant in
    next.drawn_is

pub draw_next-requires-clause-stands : goal.draw_next-requires-clause-stands
draw_next-requires-clause-stands g c κs within =
    let sized = subst (λ (s : Dimensions). IsSize s.width s.height) c.size.ensures c.width-width.ensures.valid in
    let next = next_turn g.K.Keeper.stands g.met.K.Keeper.passes c.args.screen.now.beside.now c.args.screen.now.list.now.list c.args.screen.now.cut.now c.args.bin sized c.columns-columns.ensures.valid c.args._to c.loop-index.index-index c.loop-index.drawn c.args.indices.now c.loop-index.keeper c.loop-index-test.true c.loop-index.invariant in
    next.at

pub overflow_add-drawn : goal.overflow_add-drawn
overflow_add-drawn g c =
    let sized = subst (λ (s : Dimensions). IsSize s.width s.height) c.size.ensures c.width-width.ensures.valid in
    let next = next_turn g.K.Keeper.stands g.met.K.Keeper.passes c.args.screen.now.beside.now c.args.screen.now.list.now.list c.args.screen.now.cut.now c.args.bin sized c.columns-columns.ensures.valid c.args._to c.loop-index.index-index c.loop-index.drawn c.args.indices.now c.loop-index.keeper c.loop-index-test.true c.loop-index.invariant in
    let below = next.below in
    let is = next.drawn_is in
    let most = drawn_within c.args.screen.now.list.now.list c.args.screen.now.cut.now c.args.bin (get_or c.args.indices.now c.loop-index.index-index 0) in
    omega (arith, below, is, most, c.ranges._to)

pub loop-index-preserved : goal.loop-index-preserved
loop-index-preserved g c =
    let sized = subst (λ (s : Dimensions). IsSize s.width s.height) c.size.ensures c.width-width.ensures.valid in
    let next = next_turn g.K.Keeper.stands g.met.K.Keeper.passes c.args.screen.now.beside.now c.args.screen.now.list.now.list c.args.screen.now.cut.now c.args.bin sized c.columns-columns.ensures.valid c.args._to c.loop-index.index-index c.loop-index.drawn c.args.indices.now c.loop-index.keeper c.loop-index-test.true c.loop-index.invariant in
    (get_or c.args.indices.now c.loop-index.index-index 0 + 1, next.walked, c.draw_next.ensures, next.more)

pub returns : goal.returns
returns g c =
    let sized = subst (λ (s : Dimensions). IsSize s.width s.height) c.size.ensures c.width-width.ensures.valid in
    let last = last_turn g.K.Keeper.stands g.met.K.Keeper.passes c.args.screen.now.beside.now c.args.screen.now.list.now.list c.args.screen.now.cut.now c.args.bin sized c.columns-columns.ensures.valid c.args._to c.loop-index.index-index c.loop-index.drawn c.args.indices.now c.loop-index.keeper (omega (arith, c.loop-index-test.false)) c.loop-index.invariant in
    record { taken = last.0; stands = last.1 }

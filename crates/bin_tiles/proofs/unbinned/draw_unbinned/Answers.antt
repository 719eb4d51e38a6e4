use Rattle.std.proofs.Common.{length, arith, sym, subst}
use Rattle.binning.proofs.Laws.{all_batches}
use Rattle.bin_tiles.specs.Bins.{IsBinAt}
use Rattle.bin_tiles.proofs.Counting.{drawn_none}
use Rattle.bin_tiles.proofs.unbinned.draw_unbinned.Goals as goal

pub loop-batch-init : goal.loop-batch-init
loop-batch-init g c = record { from = omega arith; taken = sym (drawn_none c.args.screen.now.list.now.list c.args.screen.now.cut.now c.args.bin); stands = c.requires.stands }

pub returns : goal.returns
returns g c =
    let whole = all_batches (length c.args.screen.now.list.now.list.members) c.args.size c.len-len.result c.batch_count-batch-end.result c.loop-batch.batch c.loop-batch.from (omega (arith, c.requires.size)) c.batch_count-batch-end.ensures c.len-len.ensures.value (omega (arith, c.loop-batch-test.false, c.loop-batch.auto.batch-end)) c.loop-batch.invariant.from in
    subst (λ k. IsBinAt g.K.Keeper.stands c.args.screen.now.beside.now c.args.screen.now.list.now.list c.args.screen.now.cut.now k c.args.bin c.loop-batch.keeper) whole c.loop-batch.invariant.stands

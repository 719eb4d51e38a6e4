use Rattle.std.proofs.Common.{length, arith, subst}
use Rattle.binning.proofs.Laws.{all_batches}
use Rattle.bin_tiles.specs.Bins.{AreBinsAt}
use Rattle.bin_tiles.proofs.one_worker.draw_in_rooms.Goals as goal

pub returns : goal.returns
returns g c =
    let whole = all_batches (length c.args.screen.now.list.now.list.members) c.args.size c.len-len.result c.batch_count-batch-end.result c.loop-batch.batch c.loop-batch.from (omega (arith, c.requires.size)) c.batch_count-batch-end.ensures c.len-len.ensures.value (omega (arith, c.loop-batch-test.false, c.loop-batch.auto.batch-end)) c.loop-batch.invariant.from in
    subst (λ k. AreBinsAt g.K.Keeper.stands c.args.screen.now.beside.now c.args.screen.now.list.now.list c.args.screen.now.cut.now k c.loop-batch.bins) whole c.loop-batch.invariant.bins

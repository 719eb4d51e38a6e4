use Rattle.std.proofs.Common.{◌≡◌, replicate, rules}
use Rattle.bin_tiles.proofs.Counting.{none_taken}
use Rattle.bin_tiles.proofs.one_worker.none_taken.Goals as goal

pub returns : goal.returns
returns c list =
    let is : c.in_ok-taken.taken.items ≡ replicate c.bins-count.result 0 = search rules in
    none_taken list c.args.cut.now c.bins-count.result c.in_ok-taken.taken.items is c.bins-count.ensures.value

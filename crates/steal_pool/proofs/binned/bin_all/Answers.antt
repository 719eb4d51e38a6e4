use Rattle.std.proofs.Common.{vec_items, arith, subst}
use Rattle.steal_pool.specs.Binned.{IsBinned}
use Rattle.steal_pool.proofs.binned.bin_all.Goals as goal

pub returns-clause-binned : goal.returns-clause-binned
returns-clause-binned g c k d lt =
    let h = (c.for_each_share.ensures k d (omega (arith, lt))).1 in
    subst (λ s. IsBinned vec_items c.args.frame.now k s) h.left h.call

use Rattle.std.proofs.Common.{arith}
use Rattle.binning.proofs.Axes.{reached_is, first_has_tile}
use Rattle.binning.proofs.axis.Axis.reached.Goals as goal

pub returns-clause-reached : goal.returns-clause-reached
returns-clause-reached c = rw (c.bin_of.ensures.value, c.bin_of-2.ensures.value) (reached_is c.args.self.bins c.args.self.tiles c.args.first c.args.last c.args.self.stepped.sizes c.requires.order)

pub returns-clause-first : goal.returns-clause-first
returns-clause-first c =
    let sizes = c.args.self.stepped.sizes in
    rw c.bin_of.ensures.value (first_has_tile c.args.self.bins c.args.self.tiles c.args.first (omega (arith, sizes.some_bins)) (omega (arith, sizes.some_tiles)))

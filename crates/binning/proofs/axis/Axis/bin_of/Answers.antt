use Rattle.std.proofs.Common.{arith}
use Rattle.binning.proofs.Axes.{by_step, bin_below}
use Rattle.binning.proofs.axis.Axis.bin_of.Goals as goal

pub returns-clause-value : goal.returns-clause-value
returns-clause-value c = by_step c.args.self.bins c.args.self.tiles c.args.self.step c.args.tile c.args.self.stepped c.requires

pub returns-clause-within : goal.returns-clause-within
returns-clause-within c =
    let sizes = c.args.self.stepped.sizes in
    let e = by_step c.args.self.bins c.args.self.tiles c.args.self.step c.args.tile c.args.self.stepped c.requires in
    let lt = bin_below c.args.self.bins c.args.self.tiles c.args.tile (omega (arith, sizes.some_tiles)) c.requires (omega (arith, sizes.some_bins)) in
    rw e lt

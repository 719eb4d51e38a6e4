use Rattle.std.proofs.Common.{arith}
use Rattle.snap_setup.proofs.Reached.{numerator_small}
use Rattle.snap_setup.proofs.snapping.nearness_numerator.Goals as goal

pub returns-clause-bounded : goal.returns-clause-bounded
returns-clause-bounded c = numerator_small c.args.near.distance c.args.scale _ _ (omega (arith, c.from.ensures, c.top.ensures.within)) c.from-2.ensures c.args.near.most c.requires

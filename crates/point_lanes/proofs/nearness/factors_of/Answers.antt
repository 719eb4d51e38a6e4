use Rattle.std.proofs.Common.{arith}
use Rattle.point_lanes.proofs.Lanes.{long_same}
use Rattle.point_lanes.proofs.Nearing.{factor_at, factors_long, shifts, shr}
use Rattle.point_lanes.proofs.nearness.factors_of.Goals as goal

pub overflow_shr-halved : goal.overflow_shr-halved
overflow_shr-halved c = shifts c.args.powers c.args.right c.requires.right c.fits-powers.0

pub overflow_shl-result : goal.overflow_shl-result
overflow_shl-result c = shifts _ c.args.left (omega (arith, c.requires.left)) (long_same shr c.args.powers c.args.right c.fits-powers.0)

pub returns-clause-value : goal.returns-clause-value
returns-clause-value c = factor_at c.args.powers c.args.right c.args.left c.fits-powers.0 c.requires.fits

pub returns-clause-eight : goal.returns-clause-eight
returns-clause-eight c = factors_long c.args.powers c.args.right c.args.left c.fits-powers.0

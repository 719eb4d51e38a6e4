use Rattle.point_lanes.proofs.Nearing.{guess_at}
use Rattle.point_lanes.proofs.nearness.guesses_of.Goals as goal

pub returns-clause-value : goal.returns-clause-value
returns-clause-value c =
    guess_at c.args.held c.args.reciprocals c.args.factors c.mul_high-ratios.result c.mul_high.result c.fits-reciprocals.0 c.fits-factors.0 c.mul_high-ratios.ensures.eight c.mul_high-ratios.ensures.value c.mul_high.ensures.value

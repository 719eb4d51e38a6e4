use Rattle.lane_numbers.proofs.Turned.{turned}
use Rattle.lane_numbers.proofs.reciprocals.power_of.Goals as goal

pub overflow_shl-result : goal.overflow_shl-result
overflow_shl-result c = (turned c.args.number c.requires c.ranges.number.fits).places

pub returns : goal.returns
returns c = (turned c.args.number c.requires c.ranges.number.fits).power

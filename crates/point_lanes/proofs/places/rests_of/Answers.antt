use Rattle.std.proofs.Common.{◌*◌}
use Rattle.point_lanes.proofs.Placing.{long_rests, rest_at}
use Rattle.point_lanes.proofs.places.rests_of.Goals as goal

pub returns-clause-value : goal.returns-clause-value
returns-clause-value c =
    rest_at c.args.offsets c.args.pixels c.from-scale.result c.args.numbers c.args.guesses c.fits-offsets.0 c.fits-numbers.0 c.fits-guesses.0 c.from-scale.ensures c.requires.numbers c.requires.low c.requires.high

pub returns-clause-eight : goal.returns-clause-eight
returns-clause-eight c = long_rests c.args.offsets (16 * c.from-scale.result) c.args.numbers c.args.guesses c.fits-offsets.0 c.fits-numbers.0 c.fits-guesses.0

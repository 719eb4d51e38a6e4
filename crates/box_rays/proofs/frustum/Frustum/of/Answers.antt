use Rattle.std.proofs.Common.{arith}
use Rattle.std.proofs.lemmas.Int.{ints}
use Rattle.box_rays.proofs.Objects.{pixel_is}
use Rattle.box_rays.proofs.frustum.Frustum.of.Goals as goal

pub returns-clause-frames : goal.returns-clause-frames
returns-clause-frames c =
    λ px py p across down within seen.
    pixel_is c.args.rect.now c.pixel_of.result c.pixel_of-2.result c.pixel_of-3.result c.pixel_of-4.result px py
    (omega (arith, ints, c.pixel_of.ensures)) (omega (arith, ints, c.pixel_of-2.ensures)) (omega (arith, ints, c.pixel_of-3.ensures)) (omega (arith, ints, c.pixel_of-4.ensures))
    (c.from_column.ensures.from p px within.left seen.front seen.right) (c.before_column.ensures.before p px across within.right seen.front seen.left)
    (c.from_row.ensures.from p py within.upper seen.front seen.lower) (c.before_row.ensures.before p py down within.lower seen.front seen.upper)

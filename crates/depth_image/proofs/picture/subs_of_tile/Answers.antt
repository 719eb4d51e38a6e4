use Rattle.std.proofs.Common.{arith}
use Rattle.depth_image.proofs.picture.subs_of_tile.Goals as goal

pub overflow_sub-left : goal.overflow_sub-left
overflow_sub-left c = omega (arith, c.requires, c.from-width.ensures, c.width.ensures.value)

pub returns-clause-value : goal.returns-clause-value
returns-clause-value c = omega (arith, c.min.ensures, c.from-width.ensures, c.width.ensures.value)

pub returns-clause-within : goal.returns-clause-within
returns-clause-within c = omega (arith, c.requires, c.min.ensures, c.from-width.ensures, c.width.ensures.value)

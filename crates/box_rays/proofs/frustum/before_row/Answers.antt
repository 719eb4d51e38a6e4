use Rattle.box_rays.proofs.Sides.{before_place}
use Rattle.box_rays.proofs.frustum.before_row.Goals as goal

pub returns-else-row-height-clause-before : goal.returns-else-row-height-clause-before
returns-else-row-height-clause-before c = λ p k on within front seen. before_place c.args.row k p.w _ front (c.above.ensures.above p within) seen

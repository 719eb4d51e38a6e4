use Rattle.box_rays.proofs.Sides.{before_place}
use Rattle.box_rays.proofs.frustum.before_column.Goals as goal

pub returns-else-column-width-clause-before : goal.returns-else-column-width-clause-before
returns-else-column-width-clause-before c = λ p k on within front seen. before_place c.args.column k p.w _ front (c.left_of.ensures.left p within) seen

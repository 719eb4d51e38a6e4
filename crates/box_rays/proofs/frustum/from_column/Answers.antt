use Rattle.box_rays.proofs.Sides.{from_place}
use Rattle.box_rays.proofs.frustum.from_column.Goals as goal

pub returns-else-column-eq0-clause-from : goal.returns-else-column-eq0-clause-from
returns-else-column-eq0-clause-from c = λ p k within front seen. from_place c.args.column k p.w _ front (c.right_of.ensures.right p within) seen

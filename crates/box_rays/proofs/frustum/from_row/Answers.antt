use Rattle.box_rays.proofs.Sides.{from_place}
use Rattle.box_rays.proofs.frustum.from_row.Goals as goal

pub returns-else-row-eq0-clause-from : goal.returns-else-row-eq0-clause-from
returns-else-row-eq0-clause-from c = λ p k within front seen. from_place c.args.row k p.w _ front (c.below.ensures.below p within) seen

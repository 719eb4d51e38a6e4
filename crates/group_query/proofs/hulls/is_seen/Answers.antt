use Rattle.std.proofs.Common.{ap, ◌∙◌}
use Rattle.cull_base.specs.Rectangle.{meets}
use Rattle.group_query.proofs.hulls.is_seen.Goals as goal

pub returns-in-Flat : goal.returns-in-Flat
returns-in-Flat c = rw c.in-Flat.is (c.meets.ensures.value ∙ ap (meets c.in-Flat.rect) c.screen.ensures)

use Rattle.std.proofs.Common.{ap, ◌∙◌}
use Rattle.std.proofs.lemmas.List.{get_or_default}
use Rattle.group_query.specs.Grouping.{is_box}
use Rattle.group_query.proofs.grouping.is_box_at.Goals as goal

pub returns : goal.returns
returns c d = c.is_box.ensures ∙ ap is_box (c.object_at.ensures ∙ get_or_default c.args.objects.now c.args.place c.object_at.result.now d c.requires)

use Rattle.std.proofs.Common.{ap, ◌∙◌}
use Rattle.std.proofs.lemmas.List.{get_or_default}
use Rattle.cull_report.specs.Scene.{object_shape}
use Rattle.cull_report.proofs.objects.object_form.Goals as goal

pub returns-clause-shape : goal.returns-clause-shape
returns-clause-shape c o =
    let s = c.args.scene.now in
    let at = c.object_at.result.now in
    c.form_of.ensures.shape ∙ ap (object_shape s c.args.frame) (c.object_at.ensures.place ∙ get_or_default s.objects c.args.object at o c.requires.object)

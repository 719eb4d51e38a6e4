use Rattle.std.proofs.Common.{◌≡◌, ap, ◌∙◌}
use Rattle.cull_base.specs.Shape.{area_of}
use Rattle.cull_report.specs.Scene.{size_of, object_area}
use Rattle.cull_report.proofs.Forms.{at_place}
use Rattle.cull_report.proofs.objects.object_area.Goals as goal

pub returns : goal.returns
returns c =
    let s = c.args.scene.now in
    at_place (λ o. c.form_area.result ≡ object_area s c.args.frame o) s.objects c.args.object c.object_at.result.now c.requires.object c.object_at.ensures.place
    (c.form_area.ensures ∙ ap (area_of (size_of s)) c.form_of-form.ensures.shape)

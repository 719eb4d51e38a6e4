use Rattle.std.proofs.Common.{◌≡◌, sym, ap, ◌∙◌, subst}
use Rattle.cull_base.specs.declared.scene_types.Object.{Object}
use Rattle.cull_base.specs.Shape.{area_of, verdict_of}
use Rattle.masked_update.specs.Views.{HoldsMet, state_in}
use Rattle.cull_report.specs.Hiding.{HidesObject}
use Rattle.cull_report.specs.Scene.{size_of, object_area, verdict_in}
use Rattle.cull_report.proofs.Forms.{at_place, from_place}
use Rattle.cull_report.proofs.Occluders.{hides_object}
use Rattle.cull_report.proofs.objects.object_verdict.Goals as goal

pub form_verdict-requires-clause-holds : goal.form_verdict-requires-clause-holds
form_verdict-requires-clause-holds g c =
    let s = c.args.scene.now in let held = g.V.TileView.held c.args.view.now in
    let P : Object → Type 0 = λ o. HoldsMet held (size_of s) (object_area s c.args.frame o) in
    let there = from_place P s.objects c.args.object c.object_at.result.now c.requires.object c.requires.holds in
    let here : HoldsMet held (size_of s) (object_area s c.args.frame c.object_at.result.now) = subst P (sym c.object_at.ensures.place) there in
    subst (HoldsMet held (size_of s)) (sym (ap (area_of (size_of s)) c.form_of-form.ensures.shape)) here

pub returns-clause-verdict : goal.returns-clause-verdict
returns-clause-verdict g c =
    let s = c.args.scene.now in let tile_of = g.V.TileView.tile_of c.args.view.now in
    at_place (λ o. c.form_verdict.result ≡ verdict_in s c.args.frame tile_of o) s.objects c.args.object c.object_at.result.now c.requires.object c.object_at.ensures.place
    (c.form_verdict.ensures ∙ ap (verdict_of (size_of s) (state_in (size_of s) tile_of)) c.form_of-form.ensures.shape)

pub returns-clause-hidden : goal.returns-clause-hidden
returns-clause-hidden g c =
    let s = c.args.scene.now in let tile_of = g.V.TileView.tile_of c.args.view.now in
    at_place (λ o. HidesObject s c.args.frame tile_of o c.form_verdict.result) s.objects c.args.object c.object_at.result.now c.requires.object c.object_at.ensures.place
    (hides_object s c.args.frame tile_of c.object_at.result.now c.form_verdict.result c.object_at.ensures.scene
    (c.form_verdict.ensures ∙ ap (verdict_of (size_of s) (state_in (size_of s) tile_of)) c.form_of-form.ensures.shape))

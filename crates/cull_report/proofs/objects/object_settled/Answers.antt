use Rattle.std.proofs.Common.{◌≡◌, sym, ap, ◌∙◌, subst}
use Rattle.cull_base.specs.declared.scene_types.Object.{Object}
use Rattle.cull_base.specs.Shape.{area_of}
use Rattle.masked_update.specs.Views.{HoldsMet, state_in}
use Rattle.cull_report.specs.Scene.{size_of, object_area}
use Rattle.cull_report.specs.Settled.{SettlesObject, is_settled_shape, settled_in}
use Rattle.cull_report.proofs.Forms.{at_place, from_place}
use Rattle.cull_report.proofs.Settled.{settles_object}
use Rattle.cull_report.proofs.objects.object_settled.Goals as goal

pub is_form_settled-requires : goal.is_form_settled-requires
is_form_settled-requires g c =
    let s = c.args.scene.now in let held = g.V.TileView.held c.args.view.now in
    let P : Object → Type 0 = λ o. HoldsMet held (size_of s) (object_area s c.args.frame o) in
    let there = from_place P s.objects c.args.object c.object_at.result.now c.requires.object c.requires.holds in
    let here : HoldsMet held (size_of s) (object_area s c.args.frame c.object_at.result.now) = subst P (sym c.object_at.ensures.place) there in
    record { holds = subst (HoldsMet held (size_of s)) (sym (ap (area_of (size_of s)) c.form_of-form.ensures.shape)) here }

pub returns-clause-settled : goal.returns-clause-settled
returns-clause-settled g c =
    let s = c.args.scene.now in let tile_of = g.V.TileView.tile_of c.args.view.now in
    at_place (λ o. c.is_form_settled.result ≡ settled_in s c.args.frame tile_of o) s.objects c.args.object c.object_at.result.now c.requires.object c.object_at.ensures.place
    (c.is_form_settled.ensures ∙ ap (is_settled_shape (size_of s) (state_in (size_of s) tile_of)) c.form_of-form.ensures.shape)

pub returns-clause-early : goal.returns-clause-early
returns-clause-early g c =
    let s = c.args.scene.now in let tile_of = g.V.TileView.tile_of c.args.view.now in
    at_place (λ o. SettlesObject s c.args.frame tile_of o c.is_form_settled.result) s.objects c.args.object c.object_at.result.now c.requires.object c.object_at.ensures.place
    (settles_object s c.args.frame tile_of c.object_at.result.now c.is_form_settled.result c.object_at.ensures.scene
    (c.is_form_settled.ensures ∙ ap (is_settled_shape (size_of s) (state_in (size_of s) tile_of)) c.form_of-form.ensures.shape))

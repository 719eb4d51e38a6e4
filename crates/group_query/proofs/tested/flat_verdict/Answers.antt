use Rattle.std.proofs.Common.{◌<◌, ap, ◌∙◌, subst}
use Rattle.cull_base.specs.Screen.{Dimensions, tile_count_of}
use Rattle.cull_base.specs.Shape.{flat_shape, verdict_of}
use Rattle.masked_update.specs.Views.{state_in}
use Rattle.cull_report.specs.Scene.{size_of}
use Rattle.group_query.proofs.tested.flat_verdict.Goals as goal

pub rect_test-requires : goal.rect_test-requires
rect_test-requires g c = λ t below met. c.args.asked.now.holds t (subst (λ (d : Dimensions). t < tile_count_of d) c.requires.size below)

pub returns : goal.returns
returns g c o =
    let a = c.args.asked.now in
    let size = size_of a.scene.now in
    let tile_of = g.V.TileView.tile_of a.view.now in
    c.rect_test.ensures ∙ ap (λ (d : Dimensions). verdict_of d (state_in d tile_of) (flat_shape d c.args.rect c.args.q)) c.requires.size ∙ ap (verdict_of size (state_in size tile_of)) (c.requires.form.own o)

use Rattle.std.proofs.Common.{ap, sym, ◌∙◌, subst}
use Rattle.cull_base.specs.Screen.{Dimensions}
use Rattle.cull_base.specs.Shape.{flat_shape, area_of}
use Rattle.masked_update.specs.Views.{HoldsMet, state_in}
use Rattle.rect_query.specs.Settled.{is_settled}
use Rattle.cull_report.specs.Forms.{range_of}
use Rattle.cull_report.specs.Scene.{size_of, frame_clips}
use Rattle.cull_report.proofs.Forms.{flat_holds}
use Rattle.cull_base.specs.Grade.{top_of}
use Rattle.cull_report.proofs.Settled.{flat_settled, mesh_unsettled}
use Rattle.cull_report.proofs.objects.is_form_settled.Goals as goal

pub settled_test-requires : goal.settled_test-requires
settled_test-requires g c =
    let size = size_of c.args.scene.now in let held = g.V.TileView.held c.args.view.now in
    let holds : HoldsMet held size (area_of size (flat_shape size c.in-Flat.rect c.in-Flat.q)) = rw (c.in-Flat.is) at c.requires.holds in
    subst (λ (d : Dimensions). HoldsMet held d c.in-Flat.rect) (sym c.size.ensures) (flat_holds held size c.in-Flat.rect c.in-Flat.q holds)

pub returns-in-Flat : goal.returns-in-Flat
returns-in-Flat g c =
    let size = size_of c.args.scene.now in let tile_of = g.V.TileView.tile_of c.args.view.now in
    let here = c.settled_test.ensures ∙ ap (λ (d : Dimensions). is_settled d (state_in d tile_of) c.in-Flat.rect c.in-Flat.q) c.size.ensures in
    rw (c.in-Flat.is) (here ∙ flat_settled size (state_in size tile_of) c.in-Flat.rect c.in-Flat.q)

pub returns-in-Mesh : goal.returns-in-Mesh
returns-in-Mesh g c =
    let s = c.args.scene.now in let states = state_in (size_of s) (g.V.TileView.tile_of c.args.view.now) in
    rw (c.in-Mesh.is) (mesh_unsettled (top_of s.grade) s.near (size_of s) states (frame_clips s c.args._frame) (range_of s.object_tris c.in-Mesh.first c.in-Mesh.count))

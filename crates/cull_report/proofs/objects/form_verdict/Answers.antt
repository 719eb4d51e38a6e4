use Rattle.std.proofs.Common.{length, sym, subst}
use Rattle.std.specs.List.{All}
use Rattle.cull_base.specs.Screen.{Dimensions}
use Rattle.cull_base.specs.Shape.{flat_shape, area_of}
use Rattle.masked_update.specs.Views.{HoldsMet}
use Rattle.snap_setup.specs.Pieces.{HasClips}
use Rattle.cull_report.specs.Scene.{size_of}
use Rattle.cull_report.proofs.Forms.{flat_holds, range_has_clips}
use Rattle.cull_report.proofs.objects.form_verdict.Goals as goal

pub rect_test-requires : goal.rect_test-requires
rect_test-requires g c =
    let size = size_of c.args.scene.now in let held = g.V.TileView.held c.args.view.now in
    let holds : HoldsMet held size (area_of size (flat_shape size c.in-Flat.rect c.in-Flat.q)) = rw (c.in-Flat.is) at c.requires.holds in
    subst (λ (d : Dimensions). HoldsMet held d c.in-Flat.rect) (sym c.size.ensures) (flat_holds held size c.in-Flat.rect c.in-Flat.q holds)

pub mesh_test-requires-clause-indices : goal.mesh_test-requires-clause-indices
mesh_test-requires-clause-indices g c =
    subst (All (HasClips (length c.args.clips.now))) (sym c.triangles-tris.ensures)
    (range_has_clips c.args.scene.now c.args._frame c.in-Mesh.first c.in-Mesh.count c.args.clips.now c.near.ensures.valid c.requires.clips)

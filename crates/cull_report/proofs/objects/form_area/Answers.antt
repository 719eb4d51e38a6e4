use Rattle.std.proofs.Common.{length, sym, subst, ◌∙◌}
use Rattle.std.specs.List.{All}
use Rattle.cull_base.specs.Grade.{top_of}
use Rattle.cull_base.specs.Shape.{area_of}
use Rattle.mesh_query.specs.Meshes.{mesh_shape}
use Rattle.snap_setup.specs.Pieces.{HasClips}
use Rattle.cull_report.proofs.Forms.{range_has_clips}
use Rattle.cull_report.proofs.objects.form_area.Goals as goal

pub mesh_area-requires-clause-indices : goal.mesh_area-requires-clause-indices
mesh_area-requires-clause-indices c =
    subst (All (HasClips (length c.args.clips.now))) (sym c.triangles.ensures)
    (range_has_clips c.args.scene.now c.args._frame c.in-Mesh.first c.in-Mesh.count c.args.clips.now c.near.ensures.valid c.requires.clips)

pub returns-in-Mesh : goal.returns-in-Mesh
returns-in-Mesh c =
    let top = top_of c.args.scene.now.grade in
    let size = c.size-in-Mesh.ensures in let near = c.near.ensures.value in let clips = c.requires.clips in let tris = c.triangles.ensures in
    rw c.in-Mesh.is (c.mesh_area.ensures top ∙ (λ i. area_of (size i) (mesh_shape top (near i) (size i) (clips i) (tris i))))

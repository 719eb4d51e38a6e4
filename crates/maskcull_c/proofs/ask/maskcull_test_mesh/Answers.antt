use Rattle.std.proofs.Common.{◌≡◌, map, ap, ◌∙◌}
use Rattle.cull_base.specs.Grade.{top_of}
use Rattle.mesh_query.specs.Meshes.{mesh_shape}
use Rattle.mesh_query.proofs.Occluders.{mesh_has_pieces}
use Rattle.maskcull_c.specs.Asked.{shape_of_mesh, verdict_over}
use Rattle.maskcull_c.specs.Given.{IsSetup, clip_of, grade_of, size_of, tri_of}
use Rattle.maskcull_c.specs.Tiles.{code_of}
use Rattle.maskcull_c.proofs.Hiding.{hides_by_verdict, told_of}
use Rattle.maskcull_c.proofs.ask.maskcull_test_mesh.Goals as goal
use Rattle.maskcull_c.proofs.ask.maskcull_test_mesh.Goals.{After-mesh_verdict}

-- the verdict over the size and by the numbers of the set-up that was passed
told : (c : After-mesh_verdict) → let s = c.args.setup.now in
    c.mesh_verdict.result ≡ verdict_over (size_of s) c.args.tiles.now (mesh_shape (top_of (grade_of s)) s.near (size_of s) (map clip_of c.args.vertices.now) (map tri_of c.args.triangles.now))
told c =
    let s = c.args.setup.now in
    told_of (λ g size near. c.mesh_verdict.result ≡ verdict_over size c.args.tiles.now (mesh_shape (top_of g) near size (map clip_of c.args.vertices.now) (map tri_of c.args.triangles.now))) c.in-Some.checked.grade (grade_of s) c.in-Some.checked.size (size_of s) c.in-Some.checked.near s.near c.in-Some.ensures.grade c.in-Some.ensures.size c.in-Some.ensures.near c.mesh_verdict.ensures

pub returns-clause-value : goal.returns-clause-value
returns-clause-value c setup all among = c.code.ensures.value ∙ ap code_of (told (goal.at.returns-clause-value c).After-mesh_verdict)

pub returns-clause-hides : goal.returns-clause-hides
returns-clause-hides c =
    let s = c.args.setup.now in
    let right : IsSetup s = c.in-Some.ensures.none in
    hides_by_verdict (size_of s) c.args.tiles.now (shape_of_mesh s c.args.vertices.now c.args.triangles.now) c.mesh_verdict.result c.code.result
    (mesh_has_pieces (grade_of s) s.near (size_of s) (map clip_of c.args.vertices.now) (map tri_of c.args.triangles.now) right.size right.near_least right.near_most)
    (told (goal.at.returns-clause-hides c).After-mesh_verdict) c.code.ensures.value

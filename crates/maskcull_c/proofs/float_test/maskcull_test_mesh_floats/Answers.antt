use Rattle.std.proofs.Common.{◌∙◌, sym}
use Rattle.maskcull_c.proofs.Codes.{outside_by_code}
use Rattle.maskcull_c.proofs.MeshVerdicts.{mesh_answer, mesh_beside}
use Rattle.maskcull_c.proofs.float_test.maskcull_test_mesh_floats.Goals as goal

pub returns-clause-value : goal.returns-clause-value
returns-clause-value c setup view all among =
    mesh_answer c.args.setup.now c.args.view.now c.args.tiles.now c.args.positions.now c.args.triangles.now c.mesh_verdict.result c.code.result c.mesh_verdict.ensures c.code.ensures.value

pub returns-clause-beside : goal.returns-clause-beside
returns-clause-beside c e =
    mesh_beside c.args.setup.now c.args.view.now c.args.tiles.now c.args.positions.now c.args.triangles.now c.mesh_verdict.result c.mesh_verdict.ensures (outside_by_code c.mesh_verdict.result (sym c.code.ensures.value ∙ e))

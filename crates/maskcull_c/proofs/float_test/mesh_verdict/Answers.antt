use Rattle.maskcull_c.proofs.MeshVerdicts.{visible_of_some}
use Rattle.maskcull_c.proofs.float_test.mesh_verdict.Goals as goal

pub returns-else-is_empty : goal.returns-else-is_empty
returns-else-is_empty c = visible_of_some c.args.setup.now c.args.view.now c.args.tiles.now c.args.positions.now c.args.triangles.now c.is_empty.result c.is_empty.ensures c.if-is_empty.false

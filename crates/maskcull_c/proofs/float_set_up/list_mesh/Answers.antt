use Rattle.maskcull_c.proofs.MeshPieces.{none_set_up}
use Rattle.maskcull_c.proofs.float_set_up.list_mesh.Goals as goal

pub returns-in_default : goal.returns-in_default
returns-in_default c = none_set_up c.args.setup.now c.args.view.now c.args.positions.now c.args.triangles.now c.args.rooms.now

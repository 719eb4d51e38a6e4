use Rattle.maskcull_c.proofs.InPicture.{called_hidden, mesh_hidden}
use Rattle.maskcull_c.proofs.picture_laws.hidden_in_picture.Goals as goal

pub returns : goal.returns
returns c = record { object = called_hidden; mesh = mesh_hidden }

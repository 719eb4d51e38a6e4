use Rattle.maskcull_c.proofs.InPicture.{frame_of_lists}
use Rattle.maskcull_c.proofs.picture_laws.drawn_is_frame.Goals as goal

pub returns : goal.returns
returns c = frame_of_lists

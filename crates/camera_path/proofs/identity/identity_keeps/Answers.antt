use Rattle.camera_path.proofs.ClipCoordinates.{clip_of-identity}
use Rattle.camera_path.proofs.identity.identity_keeps.Goals as goal

pub returns : goal.returns
returns c = λ v. clip_of-identity v

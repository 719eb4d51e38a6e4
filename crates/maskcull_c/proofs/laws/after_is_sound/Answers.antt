use Rattle.maskcull_c.proofs.Hiding.{after_sound}
use Rattle.maskcull_c.proofs.laws.after_is_sound.Goals as goal

pub returns : goal.returns
returns c = after_sound

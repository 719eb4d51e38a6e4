use Rattle.scene_reader.proofs.OneLayout.{exists, of_layout}
use Rattle.scene_reader.proofs.laws.one_layout.Goals as goal

pub returns : goal.returns
returns c = λ bytes fits. (λ e. exists bytes fits e, λ w. of_layout bytes w.0 w.1)

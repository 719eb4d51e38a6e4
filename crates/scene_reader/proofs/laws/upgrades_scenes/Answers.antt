use Rattle.scene_reader.proofs.Upgrades.{upgraded_scene, upgraded_again}
use Rattle.scene_reader.proofs.laws.upgrades_scenes.Goals as goal

pub returns : goal.returns
returns c = λ s scene. (upgraded_scene s scene, λ two. upgraded_again s two)

use Rattle.std.proofs.Common.{sym, subst}
use Rattle.scene_reader.specs.Layout.{Parts, IsScene, upgraded}
use Rattle.scene_reader.proofs.Upgrades.{upgraded_scene}
use Rattle.scene_reader.proofs.scene.upgrade.Goals as goal

pub from_valid-requires : goal.from_valid-requires
from_valid-requires c = subst (λ (p : Parts). IsScene (upgraded p)) (sym c.parts.view_is) (upgraded_scene _ c.into_parts-parts.ensures.valid)

-- No fault and a layout are one thing; and what becomes of a scene that is upgraded.
use Rattle.std.specs.Prelude.{ℕ, ◌≡◌, ◌<◌, List, None, ◌↔◌}
use Rattle.std.specs.List.{All}
use Rattle.scene_reader.specs.Layout.{Parts, IsScene, layout, upgraded}
use Rattle.scene_reader.specs.Fault.{first_fault}

-- a scene with this layout, and no other has it
pub record IsLayoutOf (bytes : List ℕ) (s : Parts) : Type 0 where
  pub scene : IsScene s
  pub whole : bytes ≡ layout s
  pub only : (t : Parts) → IsScene t → bytes ≡ layout t → t ≡ s

abbrev pub OneLayout : Type 0
OneLayout = (bytes : List ℕ) → All (λ b. b < 256) bytes → (first_fault bytes ≡ None) ↔ ((s : Parts) × IsLayoutOf bytes s)

-- an upgraded scene is one of version 2, and one of version 2 stays as it is
abbrev pub UpgradesScenes : Type 0
UpgradesScenes = (s : Parts) → IsScene s → IsScene (upgraded s) × (s.version ≡ 2 → upgraded s ≡ s)

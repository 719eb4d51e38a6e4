-- Subtiles packed into two numbers: their layers, and their masks.
use Rattle.std.specs.Prelude.{ℕ, ◌≡◌, ◌≤◌, ◌+◌, ◌*◌, ◌^◌, false, length}
use Rattle.std.specs.Simd.Lanes.{mask_l}
use Rattle.cull_base.specs.declared.nearness.TheConstants.{HELD_TOP}
use Rattle.cull_base.specs.State.{State, is_all}
use Rattle.cull_base.specs.Fold.{IsLayered}

-- a state that a subtile can have
pub record IsSubTile (s : State) : Type 0 where
  pub reference_within : s.reference ≤ HELD_TOP
  pub working_within : s.working ≤ HELD_TOP
  pub whole : length s.samples ≡ 32
  pub not_full : is_all s.samples ≡ false
  pub layered : IsLayered s

-- the reference in bits 0 to 23, the working depth in bits 24 to 47
abbrev pub packed_layers : State → ℕ
packed_layers s = s.reference + 2 ^ 24 * s.working

-- sample k in bit k
abbrev pub packed_mask : State → ℕ
packed_mask s = mask_l s.samples

abbrev pub packed : State → ℕ × ℕ
packed s = (packed_layers s, packed_mask s)

-- no subtile has these layers and this mask
abbrev pub NonePacks : ℕ → ℕ → Type 0
NonePacks layers mask = (s : State) → IsSubTile s → packed s ≡ (layers, mask) → ⊥

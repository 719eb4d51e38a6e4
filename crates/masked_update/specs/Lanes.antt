-- Eight subtiles as lanes: the lists of their references, their workings and their masks.
use Rattle.std.specs.Prelude.{ℕ, ◌≡◌, ◌<◌, ◌≤◌, List, length, map, slice_index_or}
use Rattle.std.specs.List.{range_with_len}
use Rattle.cull_base.specs.declared.nearness.TheConstants.{HELD_TOP}
use Rattle.cull_base.specs.State.{State, empty_state, samples_of, step_with}
use Rattle.masked_update.specs.SubTile.{seen, Layers}
use Rattle.masked_update.specs.declared.coverage.Coverage.{Coverage}

-- what is seen of lane j, and of all
abbrev pub state_of : List ℕ → List ℕ → List ℕ → ℕ → State
state_of references workings masks j =
    seen (slice_index_or references j 0) (slice_index_or workings j 0) (slice_index_or masks j 0)

unfoldable pub states_of : List ℕ → List ℕ → List ℕ → List State
states_of references workings masks = map (state_of references workings masks) (range_with_len 0 8)

pub record AreLayers (references workings masks : List ℕ) : Type 0 where
  pub eight_references : length references ≡ 8
  pub eight_workings : length workings ≡ 8
  pub eight_masks : length masks ≡ 8
  pub layers : (j : ℕ) → j < 8 → Layers (slice_index_or references j 0) (slice_index_or workings j 0) (slice_index_or masks j 0)

-- the bound and the mask of subtile j
abbrev pub low_at : Coverage → ℕ → ℕ
low_at c j = slice_index_or c.lows j 0

abbrev pub mask_at : Coverage → ℕ → ℕ
mask_at c j = slice_index_or c.masks j 0

-- eight bounds within the top that subtiles hold, and eight masks
pub record IsMergeable (c : Coverage) : Type 0 where
  pub eight_lows : length c.lows ≡ 8
  pub eight_masks : length c.masks ≡ 8
  pub within : (j : ℕ) → j < 8 → low_at c j ≤ HELD_TOP

-- each of eight subtiles takes the step of its bound at its samples
pub record AreSteps (c : Coverage) (old new : List State) : Type 0 where
  pub eight_old : length old ≡ 8
  pub eight : length new ≡ 8
  pub steps : (j : ℕ) → j < 8 → slice_index_or new j empty_state ≡ step_with (slice_index_or old j empty_state) (low_at c j) (samples_of (mask_at c j))

-- What a piece brings to the subtiles of a tile, and to which of them.
use Rattle.std.specs.Prelude.{ℕ, ◌≡◌, ◌≢◌, ◌<◌, true, List, max, slice_index_or}
use Rattle.std.specs.Int.{bit_at}
use Rattle.cull_base.specs.Screen.{Dimensions, is_on_screen}
use Rattle.cull_base.specs.Piece.{Piece, covered}
use Rattle.cull_base.specs.Depth.{least_nearness, low_of}
use Rattle.cull_base.specs.State.{State, empty_state, samples_of}
use Rattle.cull_base.specs.Fold.{step}
use Rattle.cull_base.specs.declared.place.Sub.{Sub}
use Rattle.cull_base.specs.declared.place.Tile.{Tile}
use Rattle.edge_lanes.specs.Inside.{sub_of}
use Rattle.masked_update.specs.Lanes.{low_at, mask_at, IsMergeable}
use Rattle.masked_update.specs.declared.coverage.Coverage.{Coverage}

-- The mask has the samples of a subtile that the piece covers. Where there are any, the bound is the piece's once it is
-- raised to the piece's least nearness.
pub record IsCovered (u : Sub) (x : Piece) (low mask : ℕ) : Type 0 where
  pub samples : samples_of mask ≡ covered x u
  pub bound : mask ≢ 0 → max (least_nearness x) low ≡ low_of x u

-- the subtiles of the bits are covered by the piece, and the others get nothing
pub record IsCoverage (place : Tile) (x : Piece) (bits : ℕ) (c : Coverage) : Type 0 where
  pub mergeable : IsMergeable c
  pub inside : (j : ℕ) → j < 8 → bit_at bits j ≡ 1 → IsCovered (sub_of place j) x (low_at c j) (mask_at c j)
  pub others : (j : ℕ) → j < 8 → bit_at bits j ≡ 0 → mask_at c j ≡ 0

-- each bound is raised to a nearness, and the masks stay
pub record IsRaised (nearness : ℕ) (old new : Coverage) : Type 0 where
  pub mergeable : IsMergeable new
  pub lows : (j : ℕ) → j < 8 → low_at new j ≡ max nearness (low_at old j)
  pub masks : new.masks ≡ old.masks

-- The subtiles of the bits are on the screen. Of the others the piece changes none that is on the screen.
pub record AreWanted (size : Dimensions) (place : Tile) (x : Piece) (subs : List State) (bits : ℕ) : Type 0 where
  pub on_screen : (j : ℕ) → j < 8 → bit_at bits j ≡ 1 → is_on_screen size (sub_of place j) ≡ true
  pub unchanged : (j : ℕ) → j < 8 → bit_at bits j ≡ 0 → is_on_screen size (sub_of place j) ≡ true
      → step (sub_of place j) (slice_index_or subs j empty_state) x ≡ slice_index_or subs j empty_state

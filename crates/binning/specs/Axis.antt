-- The tiles along one axis of the screen, cut into bins.
use Rattle.std.specs.Prelude.{ℕ, ◌≡◌, ◌+◌, ◌*◌, ◌/◌, ◌<◌, ◌≤◌, ◌^◌, min, max, Bool, nat_lt, ◌&&◌}
use Rattle.std.specs.Int.{div_ceil}
use Rattle.cull_base.specs.Span.{is_between}

pub record IsCutAxis (bins tiles : ℕ) : Type 0 where
  pub some_bins : 1 ≤ bins
  pub few_bins : bins ≤ 8
  pub some_tiles : 1 ≤ tiles
  pub few_tiles : tiles ≤ 256

-- the bin of a tile
abbrev pub bin_along : ℕ → ℕ → ℕ → ℕ
bin_along bins tiles n = n * bins / tiles

-- the first tile of a bin, at which the bin before ends
abbrev pub first_along : ℕ → ℕ → ℕ → ℕ
first_along bins tiles b = div_ceil (b * tiles) bins

-- a bin has some tile, and one from a first to before an end
abbrev pub has_tile_along : ℕ → ℕ → ℕ → Bool
has_tile_along bins tiles b = nat_lt (first_along bins tiles b) (first_along bins tiles (b + 1))

abbrev pub shares_tile_along : ℕ → ℕ → ℕ → ℕ → ℕ → Bool
shares_tile_along bins tiles first end b =
    nat_lt (max first (first_along bins tiles b)) (min end (first_along bins tiles (b + 1)))

-- What a tile's number is multiplied by: 2^20 times the result is its bin, and less than the next.
pub record IsStepOf (bins tiles step : ℕ) : Type 0 where
  pub sizes : IsCutAxis bins tiles
  pub is_step : step ≡ bins * div_ceil (2 ^ 20) tiles

-- Of the bins that have a tile, exactly those from a first to before an end have one among some tiles.
abbrev pub ReachesAlong : ℕ → ℕ → ℕ → ℕ → ℕ → ℕ → Type 0
ReachesAlong bins tiles first end first_bin end_bin =
    (b : ℕ) → b < bins
    → (is_between first_bin end_bin b && has_tile_along bins tiles b) ≡ shares_tile_along bins tiles first end b

-- from a first to before an end, of so many
abbrev pub IsRangeWithin : ℕ → ℕ → ℕ → Type 0
IsRangeWithin count first end = (first ≤ end) × (end ≤ count)

-- A screen and how it is cut, along both axes.
use Rattle.std.specs.Prelude.{ℕ, ◌≡◌, ◌≤◌, Bool, true}
use Rattle.cull_base.specs.Screen.{Dimensions, IsSize, tile_columns_of, tile_rows_of}
use Rattle.binning.specs.Cut.{CutOf, IsCut}

pub record CutScreen : Type 0 where
  pub size : Dimensions
  pub cut : CutOf

-- so many bins and tiles along each axis; where it is full, no axis has more bins than tiles
pub record IsGrid (size : Dimensions) (cut : CutOf) (columns tile_columns rows tile_rows : ℕ) (is_full : Bool)
    : Type 0 where
  pub sized : IsSize size.width size.height
  pub is_cut : IsCut cut.columns cut.rows
  pub across : columns ≡ cut.columns
  pub across_tiles : tile_columns ≡ tile_columns_of size
  pub down : rows ≡ cut.rows
  pub down_tiles : tile_rows ≡ tile_rows_of size
  pub full : is_full ≡ true → (cut.columns ≤ tile_columns_of size) × (cut.rows ≤ tile_rows_of size)

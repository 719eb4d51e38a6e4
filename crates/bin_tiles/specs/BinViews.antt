-- Tiles that lie in bins, each found by a table.
use Rattle.std.specs.Prelude.{ℕ, ◌≡◌, ◌<◌, Bool, ◌&&◌, nat_lt, List, [], length, slice_index_or}
use Rattle.binning.specs.Bins.{bin_of}
use Rattle.binning.specs.Cut.{CutOf}
use Rattle.cull_base.specs.Screen.{Dimensions, tile_count_of, tile_place}
use Rattle.cull_base.specs.Span.{has_tile}
use Rattle.masked_update.specs.Canvas.{CanvasOf, tile_in}
use Rattle.masked_update.specs.TileOf.{TileOf}
use Rattle.bin_tiles.specs.declared.bin_view.Spot.{Spot}

-- a size and a cut, for which a table tells where each tile lies
pub record TableOf : Type 0 where
  pub size : Dimensions
  pub cut : CutOf

abbrev pub table_of : Dimensions → CutOf → TableOf
table_of size cut = record { size = size; cut = cut }

-- a tile's bin, and its place on the screen
abbrev pub spot_of : Dimensions → CutOf → ℕ → Spot
spot_of size cut t = record { bin = bin_of size cut t; place = tile_place size t }

-- the spots of all tiles, in order
pub record AreSpots (size : Dimensions) (cut : CutOf) (spots : List Spot) : Type 0 where
  pub count : length spots ≡ tile_count_of size
  pub each : (t : ℕ) (d : Spot) → t < length spots
      → slice_index_or spots t d ≡ spot_of size cut t

-- no tiles
abbrev pub no_canvas : CanvasOf
no_canvas = record { window = record { first_column = 0; end_column = 0; first_row = 0; end_row = 0 }; tiles = [] }

-- the tiles of a tile's bin
abbrev pub bin_with : TableOf → List CanvasOf → ℕ → CanvasOf
bin_with table bins t = slice_index_or bins (bin_of table.size table.cut t) no_canvas

-- there is such a tile on the screen, and its bin has it
abbrev pub holds_in : TableOf → List CanvasOf → ℕ → Bool
holds_in table bins t =
    nat_lt t (tile_count_of table.size) && (nat_lt (bin_of table.size table.cut t) (length bins)
    && has_tile (bin_with table bins t).window (tile_place table.size t))

-- a tile as it stands in its bin
abbrev pub tile_in_bins : TableOf → List CanvasOf → ℕ → TileOf
tile_in_bins table bins t = tile_in table.size (bin_with table bins t) t

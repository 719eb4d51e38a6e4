-- The tiles of a window in which subtiles of the screen stand.
use Rattle.std.specs.Prelude.{◌/◌, max, min}
use Rattle.std.specs.Int.{div_ceil}
use Rattle.cull_base.specs.declared.tile_span.TileSpan.{TileSpan}
use Rattle.masked_update.specs.declared.sub_span.SubBox.{SubBox}

-- the tiles of both, by columns and rows; where there are none, a first may be past its end
abbrev pub reached_in : SubBox → TileSpan → TileSpan
reached_in b window = record {
  first_column = max (b.first_column / 4) window.first_column;
  end_column = min (div_ceil b.end_column 4) window.end_column;
  first_row = max (b.first_row / 2) window.first_row;
  end_row = min (div_ceil b.end_row 2) window.end_row;
}

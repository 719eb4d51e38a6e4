-- The edges of a piece over one row of tiles.
use Rattle.std.specs.Prelude.{ℕ, ◌≡◌, ◌+◌, ◌<◌, List, Bool}
use Rattle.std.specs.Int.{bit_at}
use Rattle.cull_base.specs.State.{no_samples}
use Rattle.cull_base.specs.declared.place.Tile.{Tile}
use Rattle.edge_lanes.specs.Inside.{sub_of}
use Rattle.edge_lanes.specs.Crossings.{inside_view}
use Rattle.edge_lanes.specs.declared.tile_row.TileRow.{TileRow}

-- the row's tile in a column
abbrev pub tile_in : TileRow → ℕ → Tile
tile_in t column = record { column = column; row = t.row }

-- which samples of subtile j of that tile lie inside
unfoldable pub inside_in : TileRow → ℕ → ℕ → List Bool
inside_in t column j = inside_view t.edges (sub_of (tile_in t column) j)

-- bit i is clear only where the tile that lies i tiles to the right has no samples
abbrev pub AreAhead : TileRow → ℕ → ℕ → Type 0
AreAhead t column ahead = (i : ℕ) → i < 8 → column + i < 64 → bit_at ahead i ≡ 0 → (j : ℕ) → j < 8 → inside_in t (column + i) j ≡ no_samples

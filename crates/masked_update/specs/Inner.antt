-- Tiles beyond which the screen goes on.
use Rattle.std.specs.Prelude.{ℕ, ◌+◌, ◌<◌}
use Rattle.cull_base.specs.Screen.{Dimensions, tile_columns_of, tile_rows_of}
use Rattle.cull_base.specs.declared.place.Tile.{Tile}

-- the screen has tiles in the column and in the row
abbrev pub GoesOn : Dimensions → ℕ → ℕ → Type 0
GoesOn size column row = (column < tile_columns_of size) × (row < tile_rows_of size)

-- the tile stands neither at the screen's right end nor at its lower end
abbrev pub IsInner : Dimensions → Tile → Type 0
IsInner size place = GoesOn size (place.column + 1) (place.row + 1)

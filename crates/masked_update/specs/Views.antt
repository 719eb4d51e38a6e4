-- What a query sees of tiles.
use Rattle.std.specs.Prelude.{ℕ, ◌≡◌, ◌+◌, ◌*◌, ◌/◌, ◌%◌, ◌<◌, Bool, true}
use Rattle.cull_base.specs.declared.place.Sub.{Sub}
use Rattle.cull_base.specs.declared.rect.Rect.{Rect}
use Rattle.cull_base.specs.Screen.{Dimensions, tile_columns_of, tile_count_of, tile_rect_of}
use Rattle.cull_base.specs.Rectangle.{meets}
use Rattle.cull_base.specs.State.{State}
use Rattle.masked_update.specs.TileOf.{TileOf, sub_at}

-- the state of a subtile among those of the tiles
abbrev pub state_in : Dimensions → (ℕ → TileOf) → Sub → State
state_in size tile_of u = sub_at (tile_of (u.row / 2 * tile_columns_of size + u.column / 4)) (4 * (u.row % 2) + u.column % 4)

-- a view holds the tiles that a rectangle meets
abbrev pub HoldsMet : (ℕ → Bool) → Dimensions → Rect → Type 0
HoldsMet held size r = (t : ℕ) → t < tile_count_of size → meets r (tile_rect_of size t) ≡ true → held t ≡ true

-- Frames that are drawn.
use Rattle.std.specs.Prelude.{ℕ, ◌≡◌, ◌<◌, List}
use Rattle.cull_base.specs.Screen.{tile_count_of}
use Rattle.cull_base.specs.Tiles.{PieceList, tile_after}
use Rattle.masked_update.specs.TileOf.{TileOf, tile_at}

-- each tile of the screen has the states after the whole list; of counts nothing is said
abbrev pub HaveStates : PieceList → List TileOf → Type 0
HaveStates list tiles =
    (t : ℕ) → t < tile_count_of list.size → (tile_at tiles t).subs ≡ tile_after list.size t list.members

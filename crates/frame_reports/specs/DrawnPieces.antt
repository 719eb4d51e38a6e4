-- The pieces that are drawn for a frame, which may be fewer than it has.
use Rattle.std.specs.Prelude.{ℕ, ◌≡◌, ◌<◌}
use Rattle.cull_base.specs.Screen.{tile_count_of}
use Rattle.cull_base.specs.Tiles.{PieceList, tile_after}

-- a list gives each tile the states of another
pub record DrawsAs (drawn list : PieceList) : Type 0 where
  pub size : drawn.size ≡ list.size
  pub tiles : (t : ℕ) → t < tile_count_of list.size → tile_after drawn.size t drawn.members ≡ tile_after list.size t list.members

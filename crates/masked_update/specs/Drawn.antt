-- Tiles after a whole list.
use Rattle.std.specs.Prelude.{ℕ, ◌≡◌, ◌<◌, true, List, length}
use Rattle.cull_base.specs.Screen.{Dimensions, tile_count_of, tile_sub, is_on_screen}
use Rattle.cull_base.specs.Tiles.{PieceList, tile_list, tile_after}
use Rattle.cull_base.specs.Fold.{after, IsSound, IsLayered}
use Rattle.cull_base.specs.declared.place.Sub.{Sub}
use Rattle.masked_update.specs.TileOf.{TileOf, sub_at, tile_at}

-- each subtile of the tile that is on the screen
abbrev pub EachOnScreen : Dimensions → ℕ → (ℕ → Sub → Type 0) → Type 0
EachOnScreen size tile P =
    (j : ℕ) → j < 8 → is_on_screen size (tile_sub size tile j) ≡ true → P j (tile_sub size tile j)

-- The states are those of the list, and the count is the length of the tile's own list, which gives the same states.
-- Each subtile on the screen is sound and layered.
pub record IsDrawn (list : PieceList) (tile : ℕ) (t : TileOf) : Type 0 where
  pub states : t.subs ≡ tile_after list.size tile list.members
  pub count : t.count ≡ length (tile_list tile list)
  pub sound : EachOnScreen list.size tile (λ j u. IsSound u list.members (sub_at t j))
  pub layered : EachOnScreen list.size tile (λ j u. IsLayered (sub_at t j))
  pub own_list : EachOnScreen list.size tile (λ j u. after u (tile_list tile list) ≡ after u list.members)

-- The states are those of the list, and each subtile on the screen is sound and layered. Of the count nothing is said.
pub record HasStates (list : PieceList) (tile : ℕ) (t : TileOf) : Type 0 where
  pub states : t.subs ≡ tile_after list.size tile list.members
  pub sound : EachOnScreen list.size tile (λ j u. IsSound u list.members (sub_at t j))
  pub layered : EachOnScreen list.size tile (λ j u. IsLayered (sub_at t j))

-- each tile of the screen is drawn
abbrev pub AreDrawn : PieceList → List TileOf → Type 0
AreDrawn list tiles = (t : ℕ) → t < tile_count_of list.size → IsDrawn list t (tile_at tiles t)

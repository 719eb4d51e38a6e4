-- The words of a tile's cell: how many members of its list the tile took, and its eight subtiles, packed.
use Rattle.std.specs.Prelude.{ℕ, ◌≡◌, ◌+◌, ◌*◌, ◌<◌, ◌≤◌, ◌^◌, List, [], ◌∷◌, ◌++◌, map, length}
use Rattle.std.specs.List.{range_with_len}
use Rattle.cull_base.specs.State.{State}
use Rattle.cull_base.specs.Tiles.{PieceList, tile_list}
use Rattle.masked_update.specs.Packing.{IsSubTile, packed, packed_layers, packed_mask}
use Rattle.masked_update.specs.TileOf.{TileOf, sub_at}
use Rattle.masked_update.specs.Taken.{standing_at}

-- what a tile can be: eight subtiles, and a count of 32 bits
pub record IsTile (t : TileOf) : Type 0 where
  pub eight : length t.subs ≡ 8
  pub subtiles : (j : ℕ) → j < 8 → IsSubTile (sub_at t j)
  pub count : t.count < 2 ^ 32

-- Word 0 is the count, words 1 to 8 are the layers of the subtiles. Word 9 + i, for i from 0 to 3, has the mask of
-- subtile 2i in its lower half and that of subtile 2i + 1 in its upper half.
abbrev pub layers_of : TileOf → List ℕ
layers_of t = map (λ j. packed_layers (sub_at t j)) (range_with_len 0 8)

abbrev pub masks_of : TileOf → List ℕ
masks_of t = map (λ i. packed_mask (sub_at t (2 * i)) + 2 ^ 32 * packed_mask (sub_at t (2 * i + 1))) (range_with_len 0 4)

abbrev pub words_of : TileOf → List ℕ
words_of t = t.count ∷ (layers_of t ++ masks_of t)

-- some tile has these words
abbrev pub AreTileWords : List ℕ → Type 0
AreTileWords words = (t : TileOf) × IsTile t × (words ≡ words_of t)

-- some subtile packs to the layers and the mask
abbrev pub ArePacked : ℕ → ℕ → Type 0
ArePacked layers mask = (s : State) × IsSubTile s × (packed s ≡ (layers, mask))

-- the words of a cell after the first k members of the tile's list: subtiles outside the screen are empty, and an empty
-- one has no layers and no mask
abbrev pub cell_words : ℕ → ℕ → PieceList → List ℕ
cell_words tile k list = words_of (standing_at tile k list)

abbrev pub no_words : List ℕ
no_words = 0 ∷ 0 ∷ 0 ∷ 0 ∷ 0 ∷ 0 ∷ 0 ∷ 0 ∷ 0 ∷ 0 ∷ 0 ∷ 0 ∷ 0 ∷ []

-- these are the words after the first k members, there are so many, and a tile can be what they give
pub record HoldsAt (words : List ℕ) (tile k : ℕ) (list : PieceList) : Type 0 where
  pub within : k ≤ length (tile_list tile list)
  pub possible : IsTile (standing_at tile k list)
  pub words_are : words ≡ cell_words tile k list

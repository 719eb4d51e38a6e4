-- What tiles hold after some calls, each with a list of pieces of its own.
use Rattle.std.specs.Prelude.{ℕ, ◌≡◌, ◌+◌, ◌*◌, ◌<◌, ◌≤◌, ◌&&◌, ◌⊎◌, true, cond, nat_le, nat_lt, List, [], length}
use Rattle.cull_base.specs.Fold.{IsSound}
use Rattle.cull_base.specs.Nearer.{HasNearerPiece}
use Rattle.cull_base.specs.Piece.{Piece, middle}
use Rattle.cull_base.specs.Pixels.{tile_of_pixel}
use Rattle.cull_base.specs.Screen.{Dimensions, is_on_screen, tile_columns_of, tile_rows_of, tile_count_of, tile_sub}
use Rattle.cull_base.specs.Shape.{Shape, has_sample, near_at}
use Rattle.cull_base.specs.Tiles.{ArePieces, tile_after}
use Rattle.cull_base.specs.declared.scene_types.Verdict.{Verdict}
use Rattle.cull_base.specs.declared.scene_types.Verdict.TheVariants.{Visible, Occluded, Outside}
use Rattle.masked_update.specs.TileOf.{TileOf, sub_at, tile_at}
use Rattle.maskcull_c.specs.declared.status.TheConstants.{VISIBLE, OCCLUDED, OUTSIDE}

-- The tiles are those of a screen from one number on, and each has the states after the list that its number has. Of
-- counts nothing is said.
pub record IsAfter (size : Dimensions) (first : ℕ) (lists : ℕ → List Piece) (tiles : List TileOf) : Type 0 where
  pub states : (t : ℕ) → t < length tiles → (tile_at tiles t).subs ≡ tile_after size (first + t) (lists (first + t))
  pub valid : (t : ℕ) → t < length tiles → ArePieces (lists (first + t))

-- the lists of tiles up to a number, and others from it on
abbrev pub lists_from : ℕ → (ℕ → List Piece) → (ℕ → List Piece) → ℕ → List Piece
lists_from n before from t = cond (nat_lt t n) (before t) (from t)

-- no piece for the tiles from one number to before another, and their lists for the others
abbrev pub none_between : ℕ → ℕ → (ℕ → List Piece) → ℕ → List Piece
none_between from to lists t = cond (nat_le from t && nat_lt t to) [] (lists t)

-- as many tiles as the screen has
abbrev pub AreAll : Dimensions → List TileOf → Type 0
AreAll size tiles = length tiles ≡ tile_count_of size

-- the number of the first tile of a row of tiles
abbrev pub row_start : Dimensions → ℕ → ℕ
row_start size row = row * tile_columns_of size

-- whole rows of the screen's tiles, from one on
pub record AreRows (size : Dimensions) (first_row : ℕ) (tiles : List TileOf) : Type 0 where
  pub rows : ℕ
  pub whole : length tiles ≡ rows * tile_columns_of size
  pub within : first_row + rows ≤ tile_rows_of size

-- the number that a verdict has for the caller
abbrev pub code_of : Verdict → ℕ
code_of Visible = VISIBLE
code_of Occluded = OCCLUDED
code_of Outside = OUTSIDE

-- The tile with a number on the screen is sound for some pieces: each of its subtiles on the screen is.
pub record IsSoundFor (size : Dimensions) (number : ℕ) (pieces : List Piece) (tile : TileOf) : Type 0 where
  pub subs : (j : ℕ) → j < 8 → is_on_screen size (tile_sub size number j) ≡ true
      → IsSound (tile_sub size number j) pieces (sub_at tile j)
  pub valid : ArePieces pieces

-- With a list for each tile, an object that is called occluded has at each of its samples in the screen a piece of the
-- list of the sample's tile strictly nearer than it is there, where this tile is sound for its list.
abbrev pub Hides : Dimensions → List TileOf → Shape → ℕ → Type 0
Hides size tiles shape code =
    (lists : ℕ → List Piece) (px py : ℕ)
    → let t = tile_of_pixel size px py in IsSoundFor size t (lists t) (tile_at tiles t)
    → code ≡ OCCLUDED → px < size.width → py < size.height → has_sample shape px py ≡ true
    → HasNearerPiece (lists t) (middle px py) (near_at shape px py)

-- a verdict, or one of the refusals from 1 to the last
abbrev pub IsAnswer : ℕ → ℕ → Type 0
IsAnswer last code = ((1 ≤ code) × (code ≤ last)) ⊎ ((VISIBLE ≤ code) × (code ≤ OUTSIDE))

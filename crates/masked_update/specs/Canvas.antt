-- The tiles of a window of the screen, row by row, that are drawn into.
use Rattle.std.specs.Prelude.{ℕ, ◌≡◌, ◌<◌, ◌≤◌, true, false, List, length, take, replicate, slice_set, slice_index_or}
use Rattle.cull_base.specs.Piece.{Piece, box_of}
use Rattle.cull_base.specs.Rectangle.{meets}
use Rattle.cull_base.specs.Screen.{Dimensions, tile_count_of, tile_place, tile_rect_of}
use Rattle.cull_base.specs.Span.{has_tile, number_in, tiles_in}
use Rattle.cull_base.specs.Tiles.{PieceList, tile_list}
use Rattle.cull_base.specs.declared.place.Tile.{Tile}
use Rattle.cull_base.specs.declared.tile_span.TileSpan.{TileSpan}
use Rattle.masked_update.specs.TileOf.{TileOf, tile_at, empty_tile}
use Rattle.masked_update.specs.Taken.{tile_of, merged_where, counted_where}
use Rattle.masked_update.specs.Drawn.{HasStates}

pub record CanvasOf : Type 0 where
  pub window : TileSpan
  pub tiles : List TileOf

-- there are as many tiles as the window has
abbrev pub IsCanvas : CanvasOf → Type 0
IsCanvas c = length c.tiles ≡ tiles_in c.window

abbrev pub empty_canvas : TileSpan → CanvasOf
empty_canvas window = record { window = window; tiles = replicate (tiles_in window) empty_tile }

abbrev pub with_tile : CanvasOf → ℕ → TileOf → CanvasOf
with_tile c n t = record { window = c.window; tiles = slice_set c.tiles n t }

-- the tile at a place of the window
abbrev pub tile_on : CanvasOf → Tile → TileOf
tile_on c place = tile_at c.tiles (number_in c.window place)

-- the tile that has a number on the screen
abbrev pub tile_in : Dimensions → CanvasOf → ℕ → TileOf
tile_in size c t = tile_on c (tile_place size t)

-- the screen has such a tile, and it stands in the window
pub record IsInWindow (size : Dimensions) (window : TileSpan) (t : ℕ) : Type 0 where
  pub on_screen : t < tile_count_of size
  pub within : has_tile window (tile_place size t) ≡ true

-- the first members of a list
abbrev pub first_of : ℕ → PieceList → PieceList
first_of k list = record { size = list.size; members = take k list.members }

-- a tile that took its own list
abbrev pub own_tile : PieceList → ℕ → TileOf
own_tile list tile = tile_of list.size tile (tile_list tile list)

-- The subtiles of each tile of the window are those of a tile that took those of the list's first k members that are its
-- own, in order. Of counts nothing is said.
pub record StandsAt (list : PieceList) (k : ℕ) (c : CanvasOf) : Type 0 where
  pub tiles : (t : ℕ) → IsInWindow list.size c.window t → (tile_in list.size c t).subs ≡ (own_tile (first_of k list) t).subs

-- each tile of the window counts those of the list's first k members that are its own
pub record CountsAt (list : PieceList) (k : ℕ) (c : CanvasOf) : Type 0 where
  pub tiles : (t : ℕ) → IsInWindow list.size c.window t → (tile_in list.size c t).count ≡ (own_tile (first_of k list) t).count

-- each tile of the window has the states after the whole list
abbrev pub AreDrawnIn : PieceList → CanvasOf → Type 0
AreDrawnIn list c = (t : ℕ) → IsInWindow list.size c.window t → HasStates list t (tile_in list.size c t)

-- the piece's box meets no tile of the window
abbrev pub MissesWindow : Dimensions → TileSpan → Piece → Type 0
MissesWindow size window x = (t : ℕ) → IsInWindow size window t → meets (box_of x) (tile_rect_of size t) ≡ false

-- the list's members from number a to before b miss the window
pub record MissBetween (list : PieceList) (window : TileSpan) (a b : ℕ) : Type 0 where
  pub ordered : a ≤ b
  pub members : (i : ℕ) (x : Piece) → a ≤ i → i < b → i < length list.members → slice_index_or list.members i x ≡ x
      → MissesWindow list.size window x

-- the piece is merged into each tile of the window that its box meets, and the others stay
pub record MergedMet (size : Dimensions) (x : Piece) (old new : CanvasOf) : Type 0 where
  pub window : new.window ≡ old.window
  pub tiles : (t : ℕ) → IsInWindow size old.window t
      → tile_in size new t ≡ merged_where (meets (box_of x) (tile_rect_of size t)) size t x (tile_in size old t)

-- the piece is counted in each tile of the window that its box meets, and the others stay
pub record CountedMet (size : Dimensions) (x : Piece) (old new : CanvasOf) : Type 0 where
  pub window : new.window ≡ old.window
  pub tiles : (t : ℕ) → IsInWindow size old.window t
      → tile_in size new t ≡ counted_where (meets (box_of x) (tile_rect_of size t)) (tile_in size old t)

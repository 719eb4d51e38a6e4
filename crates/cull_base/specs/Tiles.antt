-- Lists of pieces for a screen, and what of them a tile has taken.
use Rattle.std.specs.Prelude.{ℕ, List, map, filter, take, cond, [], ◌∷◌, ◌++◌}
use Rattle.std.specs.List.{range_with_len, Contains}
use Rattle.cull_base.specs.Screen.{Dimensions, tile_rect_of, tile_sub, is_on_screen}
use Rattle.cull_base.specs.Rectangle.{meets}
use Rattle.cull_base.specs.Piece.{Piece, IsPiece, box_of}
use Rattle.cull_base.specs.State.{State, empty_state}
use Rattle.cull_base.specs.Fold.{after}

-- what tiles are drawn of: a screen, and the pieces of a frame in submission order
pub record PieceList : Type 0 where
  pub size : Dimensions
  pub members : List Piece

-- a frame list, and how many members it has room for
pub record FrameListOf : Type 0 where
  pub list : PieceList
  pub room : ℕ

-- with some members more, at the end
abbrev pub with_members : FrameListOf → List Piece → FrameListOf
with_members f pieces = record { list = record { size = f.list.size; members = f.list.members ++ pieces }; room = f.room }

abbrev pub with_member : FrameListOf → Piece → FrameListOf
with_member f t = with_members f (t ∷ [])

-- each member is a piece
abbrev pub ArePieces : List Piece → Type 0
ArePieces pieces = (t : Piece) → Contains pieces t → IsPiece t

-- the members whose box meets the tile's rectangle, in order
unfoldable pub tile_list : ℕ → PieceList → List Piece
tile_list tile list = filter (λ t. meets (box_of t) (tile_rect_of list.size tile)) list.members

-- the states of a tile's subtiles after some pieces: those that lie outside the screen stay empty
abbrev pub tile_after : Dimensions → ℕ → List Piece → List State
tile_after size tile pieces =
    map (λ j. let u = tile_sub size tile j in cond (is_on_screen size u) (after u pieces) empty_state) (range_with_len 0 8)

-- the states of a tile's subtiles after the first k members of its list
abbrev pub prefixed : ℕ → ℕ → PieceList → List State
prefixed tile k list = tile_after list.size tile (take k (tile_list tile list))

-- Tiles that took a piece, or the first members of their list.
use Rattle.std.specs.Prelude.{ℕ, ◌≡◌, ◌+◌, ◌<◌, Bool, cond, length, List, slice_index_or}
use Rattle.cull_base.specs.Screen.{Dimensions, tile_place}
use Rattle.cull_base.specs.declared.place.Tile.{Tile}
use Rattle.cull_base.specs.Piece.{Piece}
use Rattle.cull_base.specs.Tiles.{PieceList, tile_list, tile_after, prefixed}
use Rattle.masked_update.specs.TileOf.{TileOf}
use Rattle.masked_update.specs.Merged.{merged_by}

-- one piece more is counted, and the subtiles stay
abbrev pub counted_tile : TileOf → TileOf
counted_tile t = record { subs = t.subs; count = t.count + 1 }

-- the piece is merged into the subtiles of the tile at a place that are on the screen, and the count stays
abbrev pub merged_tile : Dimensions → Tile → Piece → TileOf → TileOf
merged_tile size place x t = record { subs = merged_by size place x t.subs; count = t.count }

-- the piece is merged and counted
abbrev pub taken_at : Dimensions → Tile → Piece → TileOf → TileOf
taken_at size place x t = counted_tile (merged_tile size place x t)

abbrev pub taken_by : Dimensions → ℕ → Piece → TileOf → TileOf
taken_by size tile x t = taken_at size (tile_place size tile) x t

-- the tile takes the piece where the test holds, and stays elsewhere
abbrev pub taken_where : Bool → Dimensions → ℕ → Piece → TileOf → TileOf
taken_where b size tile x t = cond b (taken_by size tile x t) t

-- the piece is merged into the tile where the test holds, and the tile stays elsewhere
abbrev pub merged_where : Bool → Dimensions → ℕ → Piece → TileOf → TileOf
merged_where b size tile x t = cond b (merged_tile size (tile_place size tile) x t) t

-- one piece more is counted in the tile where the test holds, and the tile stays elsewhere
abbrev pub counted_where : Bool → TileOf → TileOf
counted_where b t = cond b (counted_tile t) t

-- an empty tile that took these pieces
abbrev pub tile_of : Dimensions → ℕ → List Piece → TileOf
tile_of size tile pieces = record { subs = tile_after size tile pieces; count = length pieces }

-- a tile that stands at the first k members of its list
abbrev pub standing_at : ℕ → ℕ → PieceList → TileOf
standing_at tile k list = record { subs = prefixed tile k list; count = k }

-- x is member k of the tile's list
pub record IsMember (tile k : ℕ) (list : PieceList) (x : Piece) : Type 0 where
  pub within : k < length (tile_list tile list)
  pub is : slice_index_or (tile_list tile list) k x ≡ x

-- a tile that stands at the first k members and takes x stands at one more
abbrev pub MovesOn : ℕ → ℕ → PieceList → Piece → Type 0
MovesOn tile k list x = taken_by list.size tile x (standing_at tile k list) ≡ standing_at tile (k + 1) list

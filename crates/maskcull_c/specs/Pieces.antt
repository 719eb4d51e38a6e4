-- Pieces that are written into room of the caller's, one after another.
use Rattle.std.specs.Prelude.{ℕ, ◌≡◌, ◌+◌, ◌*◌, ◌<◌, ◌≤◌, List, [], length, slice_index_or}
use Rattle.cull_base.specs.Piece.{Piece}
use Rattle.cull_base.specs.Tiles.{ArePieces}
use Rattle.maskcull_c.specs.declared.given.Triangle.{Triangle}
use Rattle.maskcull_c.specs.declared.pieces.PieceRoom.{PieceRoom}

-- what stands in room for a piece
abbrev pub piece_in : PieceRoom → Piece
piece_in r = record { xs = r.x; ys = r.y; qs = r.q }

abbrev pub no_room : PieceRoom
no_room = record { x = []; y = []; q = [] }

abbrev pub room_at : List PieceRoom → ℕ → PieceRoom
room_at rooms k = slice_index_or rooms k no_room

abbrev pub no_piece : Piece
no_piece = record { xs = []; ys = []; qs = [] }

abbrev pub piece_at : List Piece → ℕ → Piece
piece_at pieces k = slice_index_or pieces k no_piece

-- room for two a triangle, the most that there can be
abbrev pub HasRoom : List Triangle → List PieceRoom → Type 0
HasRoom triangles rooms = 2 * length triangles ≤ length rooms

-- These pieces are written from one place on, in order, none past the room, and nothing is written before or behind
-- them. What is written of each is a piece.
pub record AreListed (at : ℕ) (pieces : List Piece) (old new : List PieceRoom) : Type 0 where
  pub whole : length new ≡ length old
  pub within : at + length pieces ≤ length old
  pub listed : (k : ℕ) → k < length pieces → piece_in (room_at new (at + k)) ≡ piece_at pieces k
  pub before : (i : ℕ) → i < at → room_at new i ≡ room_at old i
  pub behind : (i : ℕ) → at + length pieces ≤ i → room_at new i ≡ room_at old i
  pub valid : ArePieces pieces

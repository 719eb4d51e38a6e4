-- The tiles of a frame that is checked: each stands at some members of its list, and moves forward.
use Rattle.std.specs.Prelude.{ℕ, ◌≡◌, ◌<◌, ◌≤◌, List, length, take, true, slice_index}
use Rattle.cull_base.specs.declared.tile_span.TileSpan.{TileSpan}
use Rattle.cull_base.specs.Screen.{Dimensions, tile_count_of, tile_place}
use Rattle.cull_base.specs.Span.{has_tile}
use Rattle.cull_base.specs.Tiles.{PieceList, tile_list}
use Rattle.masked_update.specs.Taken.{standing_at}
use Rattle.masked_update.specs.TileOf.{TileOf, tile_at}

-- of each tile of a screen its state, the place in the frame's list behind the last member that it took, and the count that a line states
pub record TilesOf : Type 0 where
  pub size : Dimensions
  pub states : List TileOf
  pub behind : List ℕ
  pub stated : List ℕ

-- there is a place for each tile
pub record AreWhole (tiles : TilesOf) : Type 0 where
  pub states : length tiles.states ≡ tile_count_of tiles.size
  pub behind : length tiles.behind ≡ tile_count_of tiles.size
  pub stated : length tiles.stated ≡ tile_count_of tiles.size

-- how many of a list's first so many members a tile's own list has
abbrev pub met_before : PieceList → ℕ → ℕ → ℕ
met_before list t place = length (tile_list t (record { size = list.size; members = take place list.members }))

-- a tile stands behind a place of the frame's list
pub record StandsBehind (list : PieceList) (t place : ℕ) (tile : TileOf) : Type 0 where
  pub within : place ≤ length list.members
  pub state : tile ≡ standing_at t (met_before list t place) list

-- so does each tile of the screen
pub record AreStanding (list : PieceList) (tiles : TilesOf) : Type 0 where
  pub size : tiles.size ≡ list.size
  pub each : (t : ℕ) → t < tile_count_of list.size → StandsBehind list t (slice_index tiles.behind t) (tile_at tiles.states t)

-- how many members of its list a tile has taken
abbrev pub count_at : TilesOf → ℕ → ℕ
count_at tiles t = (tile_at tiles.states t).count

-- a tile of a span that is one of the screen's first n
abbrev pub IsAmong : Dimensions → TileSpan → ℕ → ℕ → Type 0
IsAmong size span n t = (t < n) × (has_tile span (tile_place size t) ≡ true)

-- a tile of a span
abbrev pub IsIn : TilesOf → TileSpan → ℕ → Type 0
IsIn tiles span t = IsAmong tiles.size span (tile_count_of tiles.size) t

-- the states and the places are as they were
pub record StaysStanding (old new : TilesOf) : Type 0 where
  pub size : new.size ≡ old.size
  pub states : new.states ≡ old.states
  pub behind : new.behind ≡ old.behind

-- Each tile of a span stands at the count that the line states, and every other tile where it stood.
pub record HaveMoved (span : TileSpan) (old new : TilesOf) : Type 0 where
  pub size : new.size ≡ old.size
  pub stated : (t : ℕ) → IsIn old span t → count_at new t ≡ slice_index old.stated t
  pub others : (t : ℕ) → t < tile_count_of old.size → (IsIn old span t → ⊥) → count_at new t ≡ count_at old t

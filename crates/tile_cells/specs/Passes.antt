-- How the passes of cells stand for what contracts see.
use Rattle.std.specs.Prelude.{◌≡◌, ℕ, ◌≤◌, ◌<◌, List, [], ◌∷◌, map, length, slice_index_or, slice_index}
use Rattle.atomic_table.specs.Seated.{TableId}
use Rattle.atomic_table.specs.declared.shared.Seat.{Seat}
use Rattle.crossbeam_utils.specs.Seq.{cell_view}
use Rattle.crossbeam_utils.specs.declared.atomic.seq_cell.Doing.{Doing}
use Rattle.cull_base.specs.Screen.{Dimensions, tile_count_of, tile_place}
use Rattle.cull_base.specs.Tiles.{PieceList, tile_list}
use Rattle.cull_base.specs.declared.place.Tile.{Tile}
use Rattle.masked_update.specs.TileOf.{TileOf, tile_at}
use Rattle.masked_update.specs.Taken.{standing_at}
use Rattle.tile_cells.specs.declared.rule.View.{View}
use Rattle.tile_cells.specs.Rule.{no_list, writer, reader}
use Rattle.tile_cells.specs.Cells.{Writing, Reading, IsAt}
use Rattle.tile_cells.specs.Words.{IsTile}

abbrev pub Token : Type 0
Token = Seat (List ℕ) (Doing (List ℕ) View)

-- what the pass knows
abbrev pub list_at : Token → PieceList
list_at p = (cell_view p).list

abbrev pub number_at : Token → ℕ
number_at p = (cell_view p).number

abbrev pub heard_at : Token → ℕ
heard_at p = (cell_view p).heard

abbrev pub loads_at : Token → ℕ
loads_at p = (cell_view p).loads

-- what contracts see of the writer of a tile
abbrev pub writing : ℕ → Token → Writing
writing tile p =
    record { cell = p.table_id; list = list_at p; tile = tile; count = number_at p; heard = heard_at p }

-- The pass is that of a tile's writer. The state beside it is that after the members that its view counts.
pub record IsWriting (tile : ℕ) (place : Tile) (size : Dimensions) (state : TileOf) (p : Token) : Type 0 where
  pub view : cell_view p ≡ writer (list_at p) tile (number_at p) (heard_at p)
  pub size_is : size ≡ (list_at p).size
  pub on_screen : tile < tile_count_of size
  pub place_is : place ≡ tile_place size tile
  pub few : length (list_at p).members ≤ 131072
  pub within : number_at p ≤ length (tile_list tile (list_at p))
  pub state_is : state ≡ standing_at tile (number_at p) (list_at p)
  pub possible : IsTile state

-- the pass is a note
pub record IsNote (tile count : ℕ) (p : Token) : Type 0 where
  pub joinable : p.me.1 ≡ []
  pub view : cell_view p ≡ reader (list_at p) tile count 0

-- the pass is a reader's
abbrev pub Reads : PieceList → ℕ → Token → Type 0
Reads list tile p = cell_view p ≡ reader list tile (number_at p) (loads_at p)

abbrev pub names_of : List Token → List TableId
names_of ps = map (λ (p : Token). p.table_id) ps

abbrev pub list_of : List Token → PieceList
list_of [] = no_list
list_of (p ∷ ps) = list_at p

abbrev pub seen_of : List Token → List ℕ
seen_of ps = map (λ (p : Token). number_at p) ps

abbrev pub loads_of : List Token → List ℕ
loads_of ps = map (λ (p : Token). loads_at p) ps

-- what contracts see of a reader's passes, one for each tile in order
abbrev pub reading : List Token → Reading
reading ps = record { cells = names_of ps; list = list_of ps; seen = seen_of ps; loads = loads_of ps }

-- each pass is a reader's, of one list, and there is one for each tile of the list's screen
pub record AreReading (ps : List Token) : Type 0 where
  pub each : (t : ℕ) (d : Token) → t < length ps → Reads (list_of ps) t (slice_index_or ps t d)
  pub whole : length ps ≡ tile_count_of (list_of ps).size

-- new cells with these identities, and a writer's pass for each
pub record AreOpened (list : PieceList) (n : ℕ) (ids : List TableId) (ps : List Token) : Type 0 where
  pub cells : length ids ≡ n
  pub passes : length ps ≡ n
  pub at : (t : ℕ) (d : Token) → t < n → IsAt ids t (slice_index_or ps t d).table_id
  pub views : (t : ℕ) (d : Token) → t < n → cell_view (slice_index_or ps t d) ≡ writer list t 0 0

-- the tile of a writer
abbrev pub standing_by : Writing → TileOf
standing_by w = standing_at w.tile w.count w.list

-- the same writer at the same count, which heard no less
pub record HearsOne (v w : Writing) : Type 0 where
  pub cell : w.cell ≡ v.cell
  pub list : w.list ≡ v.list
  pub tile : w.tile ≡ v.tile
  pub count : w.count ≡ v.count
  pub heard : v.heard ≤ w.heard

pub record Hears (old new : List Writing) : Type 0 where
  pub whole : length new ≡ length old
  pub each : (t : ℕ) (d : Writing) → t < length old → HearsOne (slice_index_or old t d) (slice_index_or new t d)

-- below n, what was seen is at most what the writers heard
abbrev pub HeardBelow : ℕ → List ℕ → List Writing → Type 0
HeardBelow n seen ws = (t : ℕ) (d : Writing) → t < n → slice_index seen t ≤ (slice_index_or ws t d).heard

-- of the first n writers: each state is that after the members that its writer took
abbrev pub AreChecked : ℕ → List Writing → List TileOf → Type 0
AreChecked n ws states = (t : ℕ) (d : Writing) → t < n → tile_at states t ≡ standing_by (slice_index_or ws t d)

-- and heard of no more than those
abbrev pub HearWithin : ℕ → List Writing → Type 0
HearWithin n ws = (t : ℕ) (d : Writing) → t < n → (slice_index_or ws t d).heard ≤ (slice_index_or ws t d).count

-- The rule of a tile's cell: what it holds, and what each view of it knows.
use Rattle.std.specs.Prelude.{◌≡◌, ◌⊎◌, ℕ, ◌+◌, ◌≤◌, max, List, [], ◌∷◌, slice_index}
use mathlib.Core.Option.{some}
use lib.ListN.{get_elem?}
use Rattle.cull_base.specs.Screen.{dimensions}
use Rattle.cull_base.specs.Tiles.{PieceList}
use Rattle.tile_cells.specs.declared.rule.Role.{Role}
use Rattle.tile_cells.specs.declared.rule.Role.TheVariants.{Unnamed, Writes, Reads, Spent}
use Rattle.tile_cells.specs.declared.rule.View.{View}
use Rattle.tile_cells.specs.Words.{HoldsAt, no_words}

abbrev pub no_list : PieceList
no_list = record { size = dimensions 0 0; members = [] }

-- the one view of a new cell: it names no list and no tile
abbrev pub nameless : View
nameless = record { role = Unnamed; list = no_list; tile = 0; number = 0; heard = 0; loads = 0 }

-- the writer of a tile took k members of the tile's list, and heard that a reader had seen so many
abbrev pub writer : PieceList → ℕ → ℕ → ℕ → View
writer list tile k heard = record { role = Writes; list = list; tile = tile; number = k; heard = heard; loads = 0 }

-- a reader that has seen so many members and made so many loads; a note is one that made none
abbrev pub reader : PieceList → ℕ → ℕ → ℕ → View
reader list tile seen loads = record { role = Reads; list = list; tile = tile; number = seen; heard = 0; loads = loads }

-- a view that was ended, and of which nothing is said
abbrev pub spent : View
spent = record { role = Spent; list = no_list; tile = 0; number = 0; heard = 0; loads = 0 }

abbrev pub FitsAs : Role → ℕ → PieceList → ℕ → ℕ → ℕ → View → Type 0
FitsAs Unnamed seat list tile k by v = ⊥
FitsAs Writes seat list tile k by v = (by ≡ seat) × (v ≡ writer list tile k v.heard) × (v.heard ≤ k)
FitsAs Reads seat list tile k by v = (v ≡ reader list tile v.number v.loads) × (v.number ≤ k)
FitsAs Spent seat list tile k by v = Unit {0}

-- What the rule says of view number `by`. The writer's is number `seat`: its count is k, and what it heard is at most k.
-- What a reader has seen is at most k.
abbrev pub Fits : ℕ → PieceList → ℕ → ℕ → ℕ → View → Type 0
Fits seat list tile k by v = FitsAs v.role seat list tile k by v

-- the cell has the words after the first k members, and each view fits
pub record Running (words : List ℕ) (views : List View) (seat : ℕ) (list : PieceList) (tile k : ℕ) : Type 0 where
  pub holds : HoldsAt words tile k list
  pub fit : (by : ℕ) (v : View) → get_elem? views by ≡ some v → Fits seat list tile k by v

-- Until it is named a cell has one view, and its words are 0. From then on it holds the words after the first members
-- of one tile's list.
abbrev pub CellRule : List ℕ → List View → Type 0
CellRule words views =
    ((words ≡ no_words) × (views ≡ nameless ∷ []))
    ⊎ ((seat : ℕ) × (list : PieceList) × (tile : ℕ) × (k : ℕ) × Running words views seat list tile k)

-- a note of a writer, or a new reader
abbrev pub note_of : View → View
note_of v = reader v.list v.tile v.number 0

-- the words are those after one member more than the writer took
abbrev pub HoldsNext : List ℕ → View → Type 0
HoldsNext words v = HoldsAt words v.tile (v.number + 1) v.list

-- a store: the writer's count grows by one
abbrev pub after_store : View → View
after_store v = writer v.list v.tile (v.number + 1) v.heard

abbrev pub Stored : View → List ℕ → List ℕ → View → Type 0
Stored v before after w = w ≡ after_store v

-- a load of a reader: what it has seen becomes the cell's count, and its loads grow by one
abbrev pub after_load : View → ℕ → View
after_load v k = reader v.list v.tile k (v.loads + 1)

pub record Loaded (v : View) (before after : List ℕ) (w : View) : Type 0 where
  pub view : w ≡ after_load v (slice_index after 0)
  pub rises : v.number ≤ slice_index after 0
  pub holds : HoldsAt after v.tile (slice_index after 0) v.list

-- a load of the writer: its view stays
pub record Checked (v : View) (before after : List ℕ) (w : View) : Type 0 where
  pub view : w ≡ v
  pub heard : v.heard ≤ v.number
  pub holds : HoldsAt after v.tile v.number v.list

-- a reader that learnt of a note
abbrev pub learned : View → View → View
learned v w = reader v.list v.tile (max v.number w.number) v.loads

-- a writer in whose view a reader's has ended
abbrev pub ended : View → View → View
ended v w = writer v.list v.tile v.number (max v.heard w.number)

abbrev pub IsWriter : View → Type 0
IsWriter v = v ≡ writer v.list v.tile v.number v.heard

abbrev pub IsReader : View → Type 0
IsReader v = v ≡ reader v.list v.tile v.number v.loads

-- both are of one tile and one list
pub record AreOfOne (v w : View) : Type 0 where
  pub list : v.list ≡ w.list
  pub tile : v.tile ≡ w.tile

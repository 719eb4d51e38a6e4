-- Bins while a frame is drawn.
use Rattle.std.specs.Prelude.{◌≡◌, ℕ, ◌<◌, List, length, slice_index, slice_index_or}
use Rattle.cull_base.specs.Screen.{Dimensions}
use Rattle.cull_base.specs.Tiles.{PieceList}
use Rattle.cull_base.specs.declared.tile_span.TileSpan.{TileSpan}
use Rattle.binning.specs.Cut.{CutOf, bin_count_of}
use Rattle.binning.specs.Bins.{bin_span_of, bin_rect_of}
use Rattle.binning.specs.Parts.{indices_in}
use Rattle.binning.specs.Rooms.{RoomOf}

-- A keeper's tiles are those of a bin, and each took those of the list's first k members that are its own. What a keeper
-- says of its tiles is given, and what lies beside them.
abbrev pub IsBinAt : {X B : Type 0} → (X → B → PieceList → TileSpan → ℕ → Type 0) → B → PieceList → CutOf → ℕ → ℕ → X
    → Type 0
IsBinAt {X} {B} stands beside list cut k bin c = stands c beside list (bin_span_of list.size cut bin) k

-- all bins of a cut screen in order, each of which stands at the first k members
pub record AreBinsAt {X B : Type 0} (stands : X → B → PieceList → TileSpan → ℕ → Type 0) (beside : B)
    (list : PieceList) (cut : CutOf) (k : ℕ) (bins : List X) : Type 0 where
  pub count : length bins ≡ bin_count_of cut
  pub each : (b : ℕ) (c : X) → b < length bins → IsBinAt stands beside list cut k b (slice_index_or bins b c)

-- the rooms for the parts of all bins, in order
pub record AreRoomsOf (size : Dimensions) (cut : CutOf) (rooms : List RoomOf) : Type 0 where
  pub count : length rooms ≡ bin_count_of cut
  pub each : (b : ℕ) (r : RoomOf) → b < length rooms → (slice_index_or rooms b r).rect ≡ bin_rect_of size cut b

-- and each has the places from one to before an end whose member meets its bin
abbrev pub HavePlaces : PieceList → CutOf → ℕ → ℕ → List RoomOf → Type 0
HavePlaces list cut from to rooms =
    (b : ℕ) (r : RoomOf) → b < length rooms → (slice_index_or rooms b r).indices ≡ indices_in list cut from to b

-- how many of the list's first k members meet a bin
abbrev pub drawn_of : PieceList → CutOf → ℕ → ℕ → ℕ
drawn_of list cut k bin = length (indices_in list cut 0 k bin)

-- of each bin, how many of the list's first k members meet it
pub record HaveTaken (list : PieceList) (cut : CutOf) (k : ℕ) (taken : List ℕ) : Type 0 where
  pub count : length taken ≡ bin_count_of cut
  pub each : (b : ℕ) → b < length taken → slice_index taken b ≡ drawn_of list cut k b

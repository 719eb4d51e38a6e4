-- What is known of the samples that pieces touch, once they are asked.
use Rattle.std.specs.Prelude.{ℕ, ◌≡◌, ◌+◌, ◌*◌, ◌/◌, ◌%◌, ◌<◌, ◌⊎◌, Bool, true, false, ◌||◌, List, Option, MatchOption}
use Rattle.std.specs.List.{Contains}
use Rattle.cull_base.specs.declared.rect.Rect.{Rect}
use Rattle.cull_base.specs.declared.place.Sub.{Sub}
use Rattle.cull_base.specs.declared.place.Tile.{Tile}
use Rattle.cull_base.specs.Screen.{Dimensions}
use Rattle.cull_base.specs.Piece.{Piece, middle, touches}
use Rattle.cull_base.specs.Depth.{high_of}
use Rattle.cull_base.specs.State.{State, hides}
use Rattle.cull_base.specs.Pixels.{sub_of_pixel, sample_of_pixel}
use Rattle.masked_update.specs.TileOf.{TileOf, sub_at}
use Rattle.mesh_query.specs.Meshes.{is_one_on_screen}
use Rattle.mesh_query.specs.declared.mesh.Progress.{Progress}

-- a piece touches the sample of a pixel of the screen
abbrev pub TouchesPixel : Dimensions → Piece → ℕ → ℕ → Type 0
TouchesPixel size t px py = (px < size.width) × (py < size.height) × (touches t (middle px py) ≡ true)

-- the sample of a pixel hides the high bound of a piece
abbrev pub hides_piece : (Sub → State) → Piece → ℕ → ℕ → Bool
hides_piece state_of t px py = hides (state_of (sub_of_pixel px py)) (sample_of_pixel px py) (high_of t (sub_of_pixel px py))

-- The samples that a piece touches in a part of the screen, and those that some pieces touch anywhere on it. Each stands with its piece.
abbrev pub TouchedIn : Dimensions → Piece → (ℕ → ℕ → Type 0) → Piece → ℕ → ℕ → Type 0
TouchedIn size t part u px py = (u ≡ t) × part px py × TouchesPixel size u px py

abbrev pub TouchedBy : Dimensions → List Piece → Piece → ℕ → ℕ → Type 0
TouchedBy size pieces u px py = Contains pieces u × TouchesPixel size u px py

-- the pixels of a subtile, of a tile and of a row of tiles
abbrev pub InSub : Sub → ℕ → ℕ → Type 0
InSub u px py = (px / 8 ≡ u.column) × (py / 4 ≡ u.row)

abbrev pub InTile : Tile → ℕ → ℕ → Type 0
InTile place px py = (px / 32 ≡ place.column) × (py / 8 ≡ place.row)

abbrev pub InRow : ℕ → ℕ → ℕ → Type 0
InRow row px py = py / 8 ≡ row

-- the states of the subtiles of one tile, by their places on the screen
abbrev pub states_of : TileOf → Sub → State
states_of tile u = sub_at tile (4 * (u.row % 2) + u.column % 4)

-- Each of some samples hides its piece. Whether a sample is touched was known before, and is now.
pub record Asked (state_of : Sub → State) (samples : Piece → ℕ → ℕ → Type 0) (before now : Bool) : Type 0 where
  pub hidden : (t : Piece) (px py : ℕ) → samples t px py → hides_piece state_of t px py ≡ true
  pub some : now ≡ true → (before ≡ true) ⊎ ((t : Piece) × (px : ℕ) × (py : ℕ) × samples t px py)
  pub none : now ≡ false → (before ≡ false) × ((t : Piece) (px py : ℕ) → samples t px py → ⊥)

-- one of some samples doesn't hide its piece
abbrev pub SomeShows : (Sub → State) → (Piece → ℕ → ℕ → Type 0) → Type 0
SomeShows state_of samples = (t : Piece) × (px : ℕ) × (py : ℕ) × samples t px py × (hides_piece state_of t px py ≡ false)

-- the answer to some samples: none where one doesn't hide its piece, else whether a sample is touched by now
abbrev pub Answers : (Sub → State) → (Piece → ℕ → ℕ → Type 0) → Bool → Option Bool → Type 0
Answers state_of samples before answer = MatchOption answer (SomeShows state_of samples) (λ now. Asked state_of samples before now)

-- After some pieces and some boxes: whether one of the boxes meets the screen and whether a sample is touched are known too.
pub record HasAsked (state_of : Sub → State) (size : Dimensions) (pieces : List Piece) (boxes : List Rect)
    (before now : Progress) : Type 0 where
  pub touched : Asked state_of (TouchedBy size pieces) before.touched now.touched
  pub met : now.met ≡ (before.met || is_one_on_screen size boxes)

-- the answer to some pieces and boxes
abbrev pub Tells : (Sub → State) → Dimensions → List Piece → List Rect → Progress → Option Progress → Type 0
Tells state_of size pieces boxes before answer =
    MatchOption answer (SomeShows state_of (TouchedBy size pieces))
    (λ now. HasAsked state_of size pieces boxes before now)

-- nothing is known
abbrev pub at_first : Progress
at_first = record { met = false; touched = false }

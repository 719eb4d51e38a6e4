-- The pixels of a tile, subtile by subtile, and of a row of tiles, tile by tile.
use Rattle.std.proofs.Common.{◌≡◌, ℕ, pos, ◌+◌, ◌*◌, ◌/◌, ◌%◌, ◌<◌, ◌≤◌, ◌⊎◌, Bool, true, arith, refl, sym, ap, ◌∙◌, inl, inr}
use Rattle.std.proofs.lemmas.Bool.{cases_lt, and_parts, and_from, ltb-true, leb-true, le-leb, lt-ltb}
use Rattle.cull_base.specs.declared.place.Tile.{Tile}
use Rattle.cull_base.specs.declared.rect.Rect.{Rect}
use Rattle.cull_base.specs.declared.tile_span.TileSpan.{TileSpan}
use Rattle.cull_base.specs.Screen.{Dimensions, tile_columns_of, tile_rows_of, tile_count_of, tile_rect_of}
use Rattle.cull_base.specs.Span.{IsSpan, HasTilesOf, has_tile, has_row, has_column}
use Rattle.cull_base.specs.Piece.{Piece, IsPiece, box_of}
use Rattle.cull_base.specs.Pixels.{sub_of_pixel, tile_of_pixel}
use Rattle.cull_base.specs.State.{State}
use Rattle.cull_base.proofs.Pixels.{tile_below, tile_is, tile_of_pixel-is}
use Rattle.cull_base.proofs.Rectangles.{meets_pixel}
use Rattle.depth_plane.proofs.Boxes.{touches-in_box}
use Rattle.edge_lanes.specs.Inside.{sub_of}
use Rattle.masked_update.specs.TileOf.{TileOf, sub_at}
use Rattle.masked_update.specs.Views.{HoldsMet, state_in}
use Rattle.masked_update.proofs.Tiles.{place_of_number}
use Rattle.mesh_query.specs.Asked.{Asked, SomeShows, TouchedIn, TouchesPixel, InSub, InTile, InRow, states_of}
use Rattle.mesh_query.proofs.Asking.{asked_none, asked_more, asked_same, shows_more}

-- the number of a pixel's subtile in its tile
abbrev pub place_in_tile : ℕ → ℕ → ℕ
place_in_tile px py = 4 * (py / 4 % 2) + px / 8 % 4

-- the pixels of a tile in the subtiles before one, and those of a row in the tiles before one
abbrev pub BeforeSub : Tile → ℕ → ℕ → ℕ → Type 0
BeforeSub place j px py = InTile place px py × (place_in_tile px py < j)

abbrev pub BeforeTile : ℕ → ℕ → ℕ → ℕ → Type 0
BeforeTile row column px py = InRow row px py × (px / 32 < column)

in_sub : (place : Tile) (j px py : ℕ) → InTile place px py → place_in_tile px py ≡ j → InSub (sub_of place j) px py
in_sub place j px py (c, r) e = (omega (arith, c, e), omega (arith, r, e))

of_sub : (place : Tile) (j px py : ℕ) → j < 8 → InSub (sub_of place j) px py → InTile place px py × (place_in_tile px py ≡ j)
of_sub place j px py lt (c, r) = ((omega (arith, c), omega (arith, r)), omega (arith, c, r))

next : (n j : ℕ) → n < j + 1 → (n < j) ⊎ (n ≡ j)
next n j lt = elim (cases_lt n j) [ inl below ↦ inl below | inr above ↦ inr (omega arith) ]

-- one subtile more
pub sub_more : (size : Dimensions) (t : Piece) (place : Tile) (tile : TileOf) (s : State) (j : ℕ) (a b c : Bool) → j < 8 → s ≡ sub_at tile j → Asked (states_of tile) (TouchedIn size t (BeforeSub place j)) a b
    → Asked (λ _. s) (TouchedIn size t (InSub (sub_of place j))) b c → Asked (states_of tile) (TouchedIn size t (BeforeSub place (j + 1))) a c
sub_more size t place tile s j a b c lt is done asked =
    let here = asked_same (λ _. s) (states_of tile) (TouchedIn size t (InSub (sub_of place j))) (TouchedIn size t (InSub (sub_of place j))) b c asked (λ v px py on. on) (λ v px py on. on)
    (λ v px py (e, inside, touch). let at = of_sub place j px py lt inside in is ∙ ap (sub_at tile) (sym at.1)) in
    asked_more (states_of tile) (TouchedIn size t (BeforeSub place j)) (TouchedIn size t (InSub (sub_of place j))) (TouchedIn size t (BeforeSub place (j + 1))) a b c done here
    (λ v px py (e, (inside, below), touch). elim (next (place_in_tile px py) j below) [ inl before ↦ inl (e, (inside, before), touch) | inr at ↦ inr (e, in_sub place j px py inside at, touch) ])
    (λ v px py (e, (inside, below), touch). (e, (inside, omega arith), touch))
    (λ v px py (e, inside, touch). let at = of_sub place j px py lt inside in (e, (at.0, omega (arith, at.1)), touch))

pub sub_shows : (size : Dimensions) (t : Piece) (place : Tile) (tile : TileOf) (s : State) (j : ℕ) → j < 8 → s ≡ sub_at tile j → SomeShows (λ _. s) (TouchedIn size t (InSub (sub_of place j)))
    → SomeShows (states_of tile) (TouchedIn size t (InTile place))
sub_shows size t place tile s j lt is shows = shows_more (λ _. s) (states_of tile) (TouchedIn size t (InSub (sub_of place j))) (TouchedIn size t (InTile place)) shows
    (λ v px py (e, inside, touch). (e, (of_sub place j px py lt inside).0, touch))
    (λ v px py (e, inside, touch). let at = of_sub place j px py lt inside in is ∙ ap (sub_at tile) (sym at.1))

pub sub_none : (size : Dimensions) (t : Piece) (place : Tile) (tile : TileOf) (j : ℕ) (a b : Bool) → j < 8 → Asked (states_of tile) (TouchedIn size t (BeforeSub place j)) a b
    → ((v : Piece) (px py : ℕ) → TouchedIn size t (InSub (sub_of place j)) v px py → ⊥) → Asked (states_of tile) (TouchedIn size t (BeforeSub place (j + 1))) a b
sub_none size t place tile j a b lt done nothing = sub_more size t place tile (sub_at tile j) j a b b lt refl done (asked_none (λ _. sub_at tile j) (TouchedIn size t (InSub (sub_of place j))) b nothing)

pub tile_none : (size : Dimensions) (t : Piece) (place : Tile) (tile : TileOf) (known : Bool) → Asked (states_of tile) (TouchedIn size t (BeforeSub place 0)) known known
tile_none size t place tile known = asked_none (states_of tile) (TouchedIn size t (BeforeSub place 0)) known (λ v px py (e, (inside, below), touch). absurd (omega arith))

pub tile_all : (size : Dimensions) (t : Piece) (place : Tile) (tile : TileOf) (a b : Bool) → Asked (states_of tile) (TouchedIn size t (BeforeSub place 8)) a b → Asked (states_of tile) (TouchedIn size t (InTile place)) a b
tile_all size t place tile a b done = asked_same (states_of tile) (states_of tile) (TouchedIn size t (BeforeSub place 8)) (TouchedIn size t (InTile place)) a b done
    (λ v px py (e, inside, touch). (e, (inside, omega arith), touch)) (λ v px py (e, (inside, below), touch). (e, inside, touch)) (λ v px py on. refl)

-- the state of a pixel's subtile is that of its tile
in_own_tile : (size : Dimensions) (tile_of : ℕ → TileOf) (tile : TileOf) (row column px py : ℕ) → tile ≡ tile_of (row * tile_columns_of size + column) → px / 32 ≡ column → py / 8 ≡ row
    → states_of tile (sub_of_pixel px py) ≡ state_in size tile_of (sub_of_pixel px py)
in_own_tile size tile_of tile row column px py e c r =
    ap (λ (s : TileOf). sub_at s (place_in_tile px py)) (e ∙ ap tile_of (sym (tile_is px py row column (tile_columns_of size) (tile_columns_of size) refl c r)))

-- one tile more
pub tile_more : (size : Dimensions) (t : Piece) (tile_of : ℕ → TileOf) (tile : TileOf) (place : Tile) (row column : ℕ) (a b c : Bool) → place ≡ record { column = column; row = row } → tile ≡ tile_of (row * tile_columns_of size + column)
    → Asked (state_in size tile_of) (TouchedIn size t (BeforeTile row column)) a b → Asked (states_of tile) (TouchedIn size t (InTile place)) b c
    → Asked (state_in size tile_of) (TouchedIn size t (BeforeTile row (column + 1))) a c
tile_more size t tile_of tile place row column a b c at is done asked =
    let own : Tile = record { column = column; row = row } in
    let there = asked_same (states_of tile) (state_in size tile_of) (TouchedIn size t (InTile own)) (TouchedIn size t (InTile own)) b c (rw at at asked) (λ v px py on. on) (λ v px py on. on)
    (λ v px py (e, inside, touch). in_own_tile size tile_of tile row column px py is inside.0 inside.1) in
    asked_more (state_in size tile_of) (TouchedIn size t (BeforeTile row column)) (TouchedIn size t (InTile own)) (TouchedIn size t (BeforeTile row (column + 1))) a b c done there
    (λ v px py (e, (inside, below), touch). elim (next (px / 32) column below) [ inl before ↦ inl (e, (inside, before), touch) | inr here ↦ inr (e, (here, inside), touch) ])
    (λ v px py (e, (inside, below), touch). (e, (inside, omega arith), touch))
    (λ v px py (e, inside, touch). (e, (inside.1, omega (arith, inside.0)), touch))

pub tile_shows : (size : Dimensions) (t : Piece) (tile_of : ℕ → TileOf) (tile : TileOf) (place : Tile) (row column : ℕ) → place ≡ record { column = column; row = row } → tile ≡ tile_of (row * tile_columns_of size + column)
    → SomeShows (states_of tile) (TouchedIn size t (InTile place)) → SomeShows (state_in size tile_of) (TouchedIn size t (InRow row))
tile_shows size t tile_of tile place row column at is shows =
    let own : Tile = record { column = column; row = row } in
    shows_more (states_of tile) (state_in size tile_of) (TouchedIn size t (InTile own)) (TouchedIn size t (InRow row)) (rw at at shows)
    (λ v px py (e, inside, touch). (e, inside.1, touch))
    (λ v px py (e, inside, touch). in_own_tile size tile_of tile row column px py is inside.0 inside.1)

-- what a piece touches lies in the tiles that its box meets
pub record InSpan (span : TileSpan) (px py : ℕ) : Type 0 where
  pub first_column : span.first_column ≤ px / 32
  pub end_column : px / 32 < span.end_column
  pub first_row : span.first_row ≤ py / 8
  pub end_row : py / 8 < span.end_row

pub touch_in_span : (size : Dimensions) (t : Piece) (span : TileSpan) (px py : ℕ) → IsPiece t → HasTilesOf span size (box_of t) → TouchesPixel size t px py → InSpan span px py
touch_in_span size t span px py piece tiles (x, y, touch) =
    let tile = tile_of_pixel-is size px py x y in
    let n = tile_of_pixel size px py in
    let met = (meets_pixel (box_of t) (tile_rect_of size n)).1 (pos px, pos py, touches-in_box t px py piece touch, tile.pixel) in
    let there : has_tile span (record { column = px / 32; row = py / 8 }) ≡ true = ap (has_tile span) (sym tile.place) ∙ tiles n tile.within ∙ met in
    let both = and_parts (has_row span (py / 8)) (has_column span (px / 32)) there in
    let rows = and_parts _ _ both.0 in let columns = and_parts _ _ both.1 in
    record { first_column = leb-true _ _ columns.0; end_column = ltb-true _ _ columns.1; first_row = leb-true _ _ rows.0; end_row = ltb-true _ _ rows.1 }

-- a view that holds the tiles that a rectangle meets holds those of its span
pub held_there : (held : ℕ → Bool) (size : Dimensions) (r : Rect) (span : TileSpan) (row column columns : ℕ) → columns ≡ tile_columns_of size → IsSpan size span → HasTilesOf span size r → HoldsMet held size r
    → span.first_row ≤ row → row < span.end_row → span.first_column ≤ column → column < span.end_column → held (row * columns + column) ≡ true
held_there held size r span row column columns is valid tiles holds r0 r1 c0 c1 =
    let in_columns : column < tile_columns_of size = omega (arith, valid.columns_within) in
    let in_rows : row < tile_rows_of size = omega (arith, valid.rows_within) in
    let n = row * tile_columns_of size + column in
    let lt : n < tile_count_of size = tile_below row (tile_rows_of size) column (tile_columns_of size) in_rows in_columns in
    let there : has_tile span (record { column = column; row = row }) ≡ true = and_from _ _ (and_from _ _ (le-leb _ _ r0) (lt-ltb _ _ r1)) (and_from _ _ (le-leb _ _ c0) (lt-ltb _ _ c1)) in
    let met = sym (tiles n lt) ∙ ap (has_tile span) (place_of_number size row column in_columns) ∙ there in
    rw is (holds n lt met)

-- nothing that a piece touches lies in a row before the columns of its span, and all that it touches there lies before their end
pub row_none : (size : Dimensions) (t : Piece) (tile_of : ℕ → TileOf) (span : TileSpan) (row : ℕ) (known : Bool) → IsPiece t → HasTilesOf span size (box_of t)
    → Asked (state_in size tile_of) (TouchedIn size t (BeforeTile row span.first_column)) known known
row_none size t tile_of span row known piece tiles = asked_none (state_in size tile_of) (TouchedIn size t (BeforeTile row span.first_column)) known (λ v px py (e, (inside, below), touch).
    let at = touch_in_span size t span px py piece tiles (rw e at touch) in absurd (omega (arith, at.first_column)))

pub row_all : (size : Dimensions) (t : Piece) (tile_of : ℕ → TileOf) (span : TileSpan) (row : ℕ) (a b : Bool) → IsPiece t → HasTilesOf span size (box_of t)
    → Asked (state_in size tile_of) (TouchedIn size t (BeforeTile row span.end_column)) a b → Asked (state_in size tile_of) (TouchedIn size t (InRow row)) a b
row_all size t tile_of span row a b piece tiles done = asked_same (state_in size tile_of) (state_in size tile_of) (TouchedIn size t (BeforeTile row span.end_column)) (TouchedIn size t (InRow row)) a b done
    (λ v px py (e, inside, touch). let at = touch_in_span size t span px py piece tiles (rw e at touch) in (e, (inside, at.end_column), touch))
    (λ v px py (e, (inside, below), touch). (e, inside, touch)) (λ v px py on. refl)

-- the rows before one, and all of them
abbrev pub BeforeRow : ℕ → ℕ → ℕ → Type 0
BeforeRow row px py = py / 8 < row

abbrev pub Anywhere : ℕ → ℕ → Type 0
Anywhere px py = Unit {0}

pub rows_none : (size : Dimensions) (t : Piece) (tile_of : ℕ → TileOf) (span : TileSpan) (known : Bool) → IsPiece t → HasTilesOf span size (box_of t)
    → Asked (state_in size tile_of) (TouchedIn size t (BeforeRow span.first_row)) known known
rows_none size t tile_of span known piece tiles = asked_none (state_in size tile_of) (TouchedIn size t (BeforeRow span.first_row)) known (λ v px py (e, below, touch).
    let at = touch_in_span size t span px py piece tiles (rw e at touch) in absurd (omega (arith, at.first_row)))

pub row_more : (size : Dimensions) (t : Piece) (tile_of : ℕ → TileOf) (row : ℕ) (a b c : Bool) → Asked (state_in size tile_of) (TouchedIn size t (BeforeRow row)) a b → Asked (state_in size tile_of) (TouchedIn size t (InRow row)) b c
    → Asked (state_in size tile_of) (TouchedIn size t (BeforeRow (row + 1))) a c
row_more size t tile_of row a b c done asked = asked_more (state_in size tile_of) (TouchedIn size t (BeforeRow row)) (TouchedIn size t (InRow row)) (TouchedIn size t (BeforeRow (row + 1))) a b c done asked
    (λ v px py (e, below, touch). elim (next (py / 8) row below) [ inl before ↦ inl (e, before, touch) | inr here ↦ inr (e, here, touch) ])
    (λ v px py (e, below, touch). (e, omega arith, touch)) (λ v px py (e, here, touch). (e, omega arith, touch))

pub rows_all : (size : Dimensions) (t : Piece) (tile_of : ℕ → TileOf) (span : TileSpan) (a b : Bool) → IsPiece t → HasTilesOf span size (box_of t)
    → Asked (state_in size tile_of) (TouchedIn size t (BeforeRow span.end_row)) a b → Asked (state_in size tile_of) (TouchedIn size t Anywhere) a b
rows_all size t tile_of span a b piece tiles done = asked_same (state_in size tile_of) (state_in size tile_of) (TouchedIn size t (BeforeRow span.end_row)) (TouchedIn size t Anywhere) a b done
    (λ v px py (e, any, touch). let at = touch_in_span size t span px py piece tiles (rw e at touch) in (e, at.end_row, touch))
    (λ v px py (e, below, touch). (e, tt, touch)) (λ v px py on. refl)

pub row_shows : (size : Dimensions) (t : Piece) (tile_of : ℕ → TileOf) (row : ℕ) → SomeShows (state_in size tile_of) (TouchedIn size t (InRow row)) → SomeShows (state_in size tile_of) (TouchedIn size t Anywhere)
row_shows size t tile_of row shows = shows_more (state_in size tile_of) (state_in size tile_of) (TouchedIn size t (InRow row)) (TouchedIn size t Anywhere) shows (λ v px py (e, inside, touch). (e, tt, touch)) (λ v px py on. refl)

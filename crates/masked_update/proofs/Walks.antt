-- Tiles of a canvas that change, one place more at a time.
use Rattle.std.proofs.Common.{◌≡◌, inl, inr, ℕ, suc, ◌+◌, ◌-◌, ◌*◌, ◌<◌, ◌≤◌, ◌&&◌, Bool, true, false, nat_eq, length, set, cond, arith, refl, ap, ◌∙◌, sym, subst}
use Rattle.std.proofs.lemmas.Bool.{and_parts, and_from, and_left, and_right, cond-false, cond-true, cases_eq, cases_lt, eq-eqb, eqb-true, false_from_ne_true}
use Rattle.std.proofs.lemmas.Bool.Decides.{eqb_tells, nat_tests}
use Rattle.std.proofs.lemmas.List.{get_or-set_other, length-set}
use Rattle.std.proofs.lemmas.Grind.{get_or-set_at}
use Rattle.cull_base.specs.Piece.{Piece, IsPiece, box_of}
use Rattle.cull_base.specs.Depth.{greatest_nearness}
use Rattle.cull_base.specs.Rectangle.{meets}
use Rattle.cull_base.specs.Screen.{Dimensions, tile_place, tile_rect_of}
use Rattle.cull_base.specs.declared.rect.Rect.{Rect}
use Rattle.cull_base.specs.Span.{IsPartOf, HasTilesOf, is_between, has_tile, has_row, has_column, columns_in, number_in, row_start_in, tiles_in}
use Rattle.cull_base.specs.declared.place.Tile.{Tile}
use Rattle.cull_base.specs.declared.tile_span.TileSpan.{TileSpan}
use Rattle.masked_update.specs.TileOf.{TileOf, tile_at, no_tile}
use Rattle.masked_update.specs.Taken.{counted_tile, counted_where, merged_tile, merged_where}
use Rattle.masked_update.specs.Canvas.{CanvasOf, CountedMet, IsCanvas, IsInWindow, MergedMet, with_tile, tile_on, tile_in}
use Rattle.masked_update.specs.Walk.{ChangedWhere, HoldsWhere, NoneBelowWhere, StayWhere, is_in_row}
pub use Rattle.masked_update.specs.Walk.{rows_before}
use Rattle.masked_update.proofs.Merging.{merged_behind}
use Rattle.masked_update.proofs.Grid.{grows_elsewhere, before, last_between, none_between}
use Rattle.masked_update.proofs.Tiles.{tile_with, same_place, has, stands, number_within, one_place, between}

-- the columns of a span before one, and its rows from one on
abbrev pub columns_before : TileSpan → ℕ → TileSpan
columns_before span column = record span { end_column = column }

abbrev pub rows_from : TileSpan → ℕ → TileSpan
rows_from span row = record span { first_row = row }

-- of no place the test holds, so nothing has changed
pub none_changed : (test : Tile → Bool) (f : Tile → TileOf → TileOf) (c : CanvasOf) → IsCanvas c → ((p : Tile) → test p ≡ false) → ChangedWhere test f c c
none_changed test f c whole none = record { window = refl; whole = whole; tiles = λ p h. sym (cond-false _ _ _ (none p)) }

-- a place where the test doesn't hold stays
pub still : (test : Tile → Bool) (f : Tile → TileOf → TileOf) (old now : CanvasOf) (p : Tile) → ChangedWhere test f old now → has_tile old.window p ≡ true → test p ≡ false → tile_on now p ≡ tile_on old p
still test f old now p changed h off = changed.tiles p h ∙ cond-false _ _ _ off

pub number_inside : (test : Tile → Bool) (f : Tile → TileOf → TileOf) (old now : CanvasOf) (p : Tile) → ChangedWhere test f old now → has_tile old.window p ≡ true → number_in old.window p < length now.tiles
number_inside test f old now p changed h =
    let lt = number_within old.window p h in
    let whole = changed.whole ∙ ap tiles_in changed.window in
    omega (arith, lt, whole)

-- one place more
pub one_more : (test more : Tile → Bool) (f : Tile → TileOf → TileOf) (old now new : CanvasOf) (q : Tile) (n : ℕ) → ChangedWhere test f old now → has_tile old.window q ≡ true → n ≡ number_in old.window q
    → test q ≡ false → more q ≡ true → ((p : Tile) → (p ≡ q → ⊥) → test p ≡ more p) → new ≡ with_tile now n (f q (tile_at now.tiles n)) → ChangedWhere more f old new
one_more test more f old now new q n changed hq is off on elsewhere step = subst (ChangedWhere more f old) (sym step) (record {
  window = changed.window;
  whole = length-set now.tiles n s ∙ changed.whole;
  tiles = λ p hp. ap (λ (w : TileSpan). tile_at (set now.tiles n s) (number_in w p)) changed.window ∙ by p hp;
})
  where
    s : TileOf
    s = f q (tile_at now.tiles n)

    at : (p : Tile) → tile_on now p ≡ tile_at now.tiles (number_in old.window p)
    at p = ap (λ (w : TileSpan). tile_at now.tiles (number_in w p)) changed.window

    there : (p : Tile) → has_tile old.window p ≡ true → p ≡ q → tile_at (set now.tiles n s) (number_in old.window p) ≡ cond (more p) (f p (tile_on old p)) (tile_on old p)
    there p hp e =
        let same : number_in old.window p ≡ n = ap (number_in old.window) e ∙ sym is in
        let inside : n < length now.tiles = (let lt = number_inside test f old now q changed hq in omega (arith, lt, is)) in
        let was : tile_at now.tiles n ≡ tile_on old p = ap (tile_at now.tiles) (sym same) ∙ sym (at p) ∙ still test f old now p changed hp (ap test e ∙ off) in
        get_or-set_at now.tiles n (number_in old.window p) s no_tile same inside ∙ ap (λ (r : Tile). f r (tile_at now.tiles n)) (sym e) ∙ ap (f p) was
        ∙ sym (ap (λ b. cond b (f p (tile_on old p)) (tile_on old p)) (ap more e ∙ on))

    apart : (p : Tile) → has_tile old.window p ≡ true → (p ≡ q → ⊥) → tile_at (set now.tiles n s) (number_in old.window p) ≡ cond (more p) (f p (tile_on old p)) (tile_on old p)
    apart p hp ne =
        get_or-set_other now.tiles n (number_in old.window p) s no_tile (λ e. ne (one_place old.window p q hp hq (e ∙ is))) ∙ sym (at p) ∙ changed.tiles p hp
        ∙ ap (λ b. cond b (f p (tile_on old p)) (tile_on old p)) (elsewhere p ne)

    by : (p : Tile) → has_tile old.window p ≡ true → tile_at (set now.tiles n s) (number_in old.window p) ≡ cond (more p) (f p (tile_on old p)) (tile_on old p)
    by p hp = elim (cases_eq p.row q.row) [
      | inl rows ↦ elim (cases_eq p.column q.column) [
        | inl columns ↦ there p hp (same_place p q columns rows)
        | inr ne ↦ apart p hp (λ e. ne (ap (λ (r : Tile). r.column) e))
      ]
      | inr ne ↦ apart p hp (λ e. ne (ap (λ (r : Tile). r.row) e))
    ]

-- the tests of a row, one column more at a time
pub row_begins : (span : TileSpan) (row : ℕ) (p : Tile) → is_in_row (columns_before span span.first_column) row p ≡ false
row_begins span row p = and_right (nat_eq p.row row) _ (none_between span.first_column p.column)

pub row_off : (span : TileSpan) (row column : ℕ) (q : Tile) → q.column ≡ column → is_in_row (columns_before span column) row q ≡ false
row_off span row column q e = and_right (nat_eq q.row row) _ (before span.first_column column q.column e)

pub row_on : (span : TileSpan) (row column : ℕ) (q : Tile) → q.row ≡ row → q.column ≡ column → span.first_column ≤ column → is_in_row (columns_before span (column + 1)) row q ≡ true
row_on span row column q rows columns le = and_from (nat_eq q.row row) _ (eq-eqb q.row row rows) (last_between span.first_column column q.column le columns)

pub row_elsewhere : (span : TileSpan) (row column : ℕ) (q p : Tile) → q.row ≡ row → q.column ≡ column → (p ≡ q → ⊥) → is_in_row (columns_before span column) row p ≡ is_in_row (columns_before span (column + 1)) row p
row_elsewhere span row column q p rows columns ne = elim (eqb_tells p.row row) [
  | inr off ↦ ap (λ b. b && is_between span.first_column column p.column) off.0 ∙ sym (ap (λ b. b && is_between span.first_column (column + 1) p.column) off.0)
  | inl on ↦ ap (λ b. nat_eq p.row row && b) (grows_elsewhere span.first_column column p.column (λ e. ne (same_place p q (e ∙ sym columns) (on.1 ∙ sym rows))))
]

-- one column more of a row
pub row_more : (span : TileSpan) (f : Tile → TileOf → TileOf) (old now new : CanvasOf) (q : Tile) (n : ℕ) → has_tile old.window q ≡ true → n ≡ number_in old.window q → span.first_column ≤ q.column
    → ChangedWhere (is_in_row (columns_before span q.column) q.row) f old now → new ≡ with_tile now n (f q (tile_at now.tiles n)) → ChangedWhere (is_in_row (columns_before span (q.column + 1)) q.row) f old new
row_more span f old now new q n h is le changed step =
    one_more (is_in_row (columns_before span q.column) q.row) (is_in_row (columns_before span (q.column + 1)) q.row) f old now new q n changed h is (row_off span q.row q.column q refl) (row_on span q.row q.column q refl refl le)
    (λ p ne. row_elsewhere span q.row q.column q p refl refl ne) step

-- the tile that the walk is at has not changed yet
pub row_still : (span : TileSpan) (f : Tile → TileOf → TileOf) (old now : CanvasOf) (q : Tile) (n : ℕ) → has_tile old.window q ≡ true → n ≡ number_in old.window q
    → ChangedWhere (is_in_row (columns_before span q.column) q.row) f old now → tile_at now.tiles n ≡ tile_on old q
row_still span f old now q n h is changed =
    ap (tile_at now.tiles) is ∙ sym (ap (λ (w : TileSpan). tile_at now.tiles (number_in w q)) changed.window) ∙ still (is_in_row (columns_before span q.column) q.row) f old now q changed h (row_off span q.row q.column q refl)

-- what holds of the tiles of a row before one, and of it
pub held_in_row : (span : TileSpan) (Holds : TileOf → Type 0) (c : CanvasOf) (q : Tile) → HoldsWhere (is_in_row (columns_before span q.column) q.row) Holds c → Holds (tile_on c q) → HoldsWhere (is_in_row (columns_before span (q.column + 1)) q.row) Holds c
held_in_row span Holds c q all one p h on = elim (cases_eq p.column q.column) [
  | inl e ↦
      let rows = eqb-true p.row q.row (and_parts (nat_eq p.row q.row) _ on).0 in
      subst (λ (r : Tile). Holds (tile_on c r)) (sym (same_place p q e rows)) one
  | inr ne ↦ all p h (ap (λ b. nat_eq p.row q.row && b) (grows_elsewhere span.first_column q.column p.column ne) ∙ on)
]

-- the tests of the rows of a span, one row more at a time
pub rows_begin : (span : TileSpan) (p : Tile) → has_tile (rows_before span span.first_row) p ≡ false
rows_begin span p = and_left _ (has_column span p.column) (none_between span.first_row p.row)

-- one row more
pub rows_more : (span : TileSpan) (f : Tile → TileOf → TileOf) (old now new : CanvasOf) (row : ℕ) → span.first_row ≤ row → ChangedWhere (has_tile (rows_before span row)) f old now
    → ChangedWhere (is_in_row span row) f now new → ChangedWhere (has_tile (rows_before span (row + 1))) f old new
rows_more span f old now new row le inv step = record { window = step.window ∙ inv.window; whole = step.whole; tiles = λ p h. by p h }
  where
    if_so : Tile → Bool → TileOf
    if_so p b = cond b (f p (tile_on old p)) (tile_on old p)

    stepped : (p : Tile) → has_tile old.window p ≡ true → tile_on new p ≡ cond (is_in_row span row p) (f p (tile_on now p)) (tile_on now p)
    stepped p h = step.tiles p (ap (λ (w : TileSpan). has_tile w p) inv.window ∙ h)

    by : (p : Tile) → has_tile old.window p ≡ true → tile_on new p ≡ cond (has_tile (rows_before span (row + 1)) p) (f p (tile_on old p)) (tile_on old p)
    by p h = elim (eqb_tells p.row row) [
      | inl on ↦
          let was : tile_on now p ≡ tile_on old p = still (has_tile (rows_before span row)) f old now p inv h (and_left _ (has_column span p.column) (before span.first_row row p.row on.1)) in
          let tests : is_in_row span row p ≡ has_tile (rows_before span (row + 1)) p = ap (λ b. b && has_column span p.column) (on.0 ∙ sym (last_between span.first_row row p.row le on.1)) in
          stepped p h ∙ ap (λ (s : TileOf). cond (is_in_row span row p) (f p s) s) was ∙ ap (λ b. cond b (f p (tile_on old p)) (tile_on old p)) tests
      | inr off ↦
          let stays : tile_on new p ≡ tile_on now p = stepped p h ∙ cond-false _ _ _ (and_left (nat_eq p.row row) (has_column span p.column) off.0) in
          let tests : has_tile (rows_before span row) p ≡ has_tile (rows_before span (row + 1)) p = ap (λ b. b && has_column span p.column) (grows_elsewhere span.first_row row p.row off.1) in
          stays ∙ inv.tiles p h ∙ ap (λ b. cond b (f p (tile_on old p)) (tile_on old p)) tests
    ]

-- the tiles of the row that the walk is at have not changed yet
pub rows_still : (span : TileSpan) (f : Tile → TileOf → TileOf) (old now : CanvasOf) (row : ℕ) (p : Tile) → ChangedWhere (has_tile (rows_before span row)) f old now → has_tile old.window p ≡ true → is_in_row span row p ≡ true
    → tile_on now p ≡ tile_on old p
rows_still span f old now row p inv h on =
    still (has_tile (rows_before span row)) f old now p inv h (and_left _ (has_column span p.column) (before span.first_row row p.row (eqb-true p.row row (and_parts (nat_eq p.row row) _ on).0)))

-- what holds of the tiles of the rows before one, and of those of the row
pub held_in_rows : (span : TileSpan) (Holds : TileOf → Type 0) (c : CanvasOf) (row : ℕ) → HoldsWhere (has_tile (rows_before span row)) Holds c → HoldsWhere (is_in_row span row) Holds c → HoldsWhere (has_tile (rows_before span (row + 1))) Holds c
held_in_rows span Holds c row all one p h on = elim (cases_eq p.row row) [
  | inl e ↦ one p h (and_from (nat_eq p.row row) (has_column span p.column) (eq-eqb p.row row e) (and_parts _ (has_column span p.column) on).1)
  | inr ne ↦ all p h (ap (λ b. b && has_column span p.column) (grows_elsewhere span.first_row row p.row ne) ∙ on)
]

-- a tile of a row of the span stands in the span
pub row_within : (span : TileSpan) (row : ℕ) (p : Tile) → span.first_row ≤ row → row < span.end_row → is_in_row span row p ≡ true → has_tile span p ≡ true
row_within span row p le lt on =
    let (rows, columns) = and_parts (nat_eq p.row row) (has_column span p.column) on in
    let e = eqb-true p.row row rows in
    and_from (has_row span p.row) (has_column span p.column) (between span.first_row span.end_row p.row (omega (arith, le, e)) (omega (arith, lt, e))) columns

-- a piece changes no tile of a row before one, nor it
pub stay_in_row : (span : TileSpan) (size : Dimensions) (x : Piece) (c : CanvasOf) (q : Tile) → StayWhere (is_in_row (columns_before span q.column) q.row) size x c → merged_tile size q x (tile_on c q) ≡ tile_on c q
    → StayWhere (is_in_row (columns_before span (q.column + 1)) q.row) size x c
stay_in_row span size x c q all one p h on = elim (cases_eq p.column q.column) [
  | inl e ↦
      let rows = eqb-true p.row q.row (and_parts (nat_eq p.row q.row) _ on).0 in
      subst (λ (r : Tile). merged_tile size r x (tile_on c r) ≡ tile_on c r) (sym (same_place p q e rows)) one
  | inr ne ↦ all p h (ap (λ b. nat_eq p.row q.row && b) (grows_elsewhere span.first_column q.column p.column ne) ∙ on)
]

-- where no column of the span is left, the row's are those before
pub in_row_before : (span : TileSpan) (row column : ℕ) (p : Tile) → span.end_column ≤ column → is_in_row span row p ≡ true → is_in_row (columns_before span column) row p ≡ true
in_row_before span row column p le on =
    let (rows, columns) = and_parts (nat_eq p.row row) (has_column span p.column) on in
    and_from (nat_eq p.row row) _ rows (wider span.first_column span.end_column column p.column le columns)
  where
    wider : (first end more n : ℕ) → end ≤ more → is_between first end n ≡ true → is_between first more n ≡ true
    wider first end more n le h = grind (arith, nat_tests)

-- a piece changes no tile of the rows before one, nor of the row
pub stay_in_rows : (span : TileSpan) (size : Dimensions) (x : Piece) (c : CanvasOf) (row : ℕ) → StayWhere (has_tile (rows_before span row)) size x c → StayWhere (is_in_row span row) size x c → StayWhere (has_tile (rows_before span (row + 1))) size x c
stay_in_rows span size x c row all one p h on = elim (cases_eq p.row row) [
  | inl e ↦ one p h (and_from (nat_eq p.row row) (has_column span p.column) (eq-eqb p.row row e) (and_parts _ (has_column span p.column) on).1)
  | inr ne ↦ all p h (ap (λ b. b && has_column span p.column) (grows_elsewhere span.first_row row p.row ne) ∙ on)
]

-- a piece that changes no tile is merged where nothing changes
pub merged_where_stays : (test : Tile → Bool) (size : Dimensions) (x : Piece) (c : CanvasOf) → IsCanvas c → StayWhere test size x c → ChangedWhere test (λ p t. merged_tile size p x t) c c
merged_where_stays test size x c whole stay = record { window = refl; whole = whole; tiles = λ p h. stays p h (test p) refl }
  where
    stays : (p : Tile) → has_tile c.window p ≡ true → (b : Bool) → test p ≡ b → tile_on c p ≡ cond (test p) (merged_tile size p x (tile_on c p)) (tile_on c p)
    stays p h true e = sym (cond-true _ _ _ e ∙ stay p h e)
    stays p h false e = sym (cond-false _ _ _ e)

-- a span of one tile
pub one_of_span : (span : TileSpan) (p : Tile) → span.end_column ≡ span.first_column + 1 → span.end_row ≡ span.first_row + 1 → has_tile span p ≡ true → p ≡ tile_with span.first_column span.first_row
one_of_span span p column row h =
    let s = stands span p h in
    same_place p (tile_with span.first_column span.first_row) (omega (arith, column, s.column_from, s.column_before)) (omega (arith, row, s.row_from, s.row_before))

-- where its tile has changed, the span has
pub one_changed : (span : TileSpan) (f : Tile → TileOf → TileOf) (old new : CanvasOf) (n : ℕ) → span.end_column ≡ span.first_column + 1 → span.end_row ≡ span.first_row + 1 → IsCanvas old → has_tile old.window (tile_with span.first_column span.first_row) ≡ true
    → n ≡ number_in old.window (tile_with span.first_column span.first_row) → new ≡ with_tile old n (f (tile_with span.first_column span.first_row) (tile_at old.tiles n)) → ChangedWhere (has_tile span) f old new
one_changed span f old new n column row whole here is step =
    one_more (λ p. false) (has_tile span) f old old new q n (none_changed (λ p. false) f old whole (λ p. refl)) here is refl
    (has span q (record { row_from = omega arith; row_before = omega (arith, row); column_from = omega arith; column_before = omega (arith, column) }))
    (λ p ne. sym (false_from_ne_true (has_tile span p) (λ h. ne (one_of_span span p column row h))))
    step
  where
    q : Tile
    q = tile_with span.first_column span.first_row

-- a piece that stands behind tiles is merged into them where nothing changes
pub merged_where_behind : (test : Tile → Bool) (size : Dimensions) (x : Piece) (c : CanvasOf) → IsPiece x → IsCanvas c → NoneBelowWhere (greatest_nearness x) test c → ChangedWhere test (λ p t. merged_tile size p x t) c c
merged_where_behind test size x c piece whole behind = record { window = refl; whole = whole; tiles = λ p h. stays p h (test p) refl }
  where
    stays : (p : Tile) → has_tile c.window p ≡ true → (b : Bool) → test p ≡ b → tile_on c p ≡ cond (test p) (merged_tile size p x (tile_on c p)) (tile_on c p)
    stays p h true e = sym (cond-true _ _ _ e ∙ merged_behind size p x (tile_on c p) piece (behind p h e))
    stays p h false e = sym (cond-false _ _ _ e)

-- a place of a span in a row before one stands among the rows before it
pub among_before : (span : TileSpan) (row : ℕ) (p : Tile) → has_tile span p ≡ true → p.row < row → has_tile (rows_before span row) p ≡ true
among_before span row p h lt = let s = stands span p h in has (rows_before span row) p (record { row_from = s.row_from; row_before = lt; column_from = s.column_from; column_before = s.column_before })

-- a piece that stands behind the rows of a span before one, and is merged into those from it on, is merged into all
pub merged_from : (span : TileSpan) (row : ℕ) (size : Dimensions) (x : Piece) (old new : CanvasOf) → IsPiece x → span.first_row ≤ row → NoneBelowWhere (greatest_nearness x) (has_tile (rows_before span row)) old
    → ChangedWhere (has_tile (rows_from span row)) (λ p t. merged_tile size p x t) old new → ChangedWhere (has_tile span) (λ p t. merged_tile size p x t) old new
merged_from span row size x old new piece le behind changed = record { window = changed.window; whole = changed.whole; tiles = λ p h. changed.tiles p h ∙ by p h }
  where
    if_so : Tile → Bool → TileOf
    if_so p b = cond b (merged_tile size p x (tile_on old p)) (tile_on old p)

    early : (first end n : ℕ) → n < first → is_between first end n ≡ false
    early first end n lt = grind (arith, nat_tests)

    late : (first begin end n : ℕ) → first ≤ begin → begin ≤ n → is_between begin end n ≡ is_between first end n
    late first begin end n a b = grind (arith, nat_tests)

    stays : (p : Tile) → has_tile old.window p ≡ true → p.row < row → (b : Bool) → has_tile span p ≡ b → tile_on old p ≡ if_so p (has_tile span p)
    stays p h lt true e = sym (cond-true _ _ _ e ∙ merged_behind size p x (tile_on old p) piece (behind p h (among_before span row p e lt)))
    stays p h lt false e = sym (cond-false _ _ _ e)

    by : (p : Tile) → has_tile old.window p ≡ true → if_so p (has_tile (rows_from span row) p) ≡ if_so p (has_tile span p)
    by p h = elim (cases_lt p.row row) [
      | inl lt ↦ cond-false _ _ _ (and_left _ (has_column span p.column) (early row span.end_row p.row lt)) ∙ stays p h lt (has_tile span p) refl
      | inr from ↦ ap (λ b. if_so p (b && has_column span p.column)) (late span.first_row row span.end_row p.row le from)
    ]

-- a piece is merged into the tiles of the span, which are those of the window that its box meets
pub merged_met : (span : TileSpan) (size : Dimensions) (x : Piece) (old new : CanvasOf) → ((t : ℕ) → IsInWindow size old.window t → has_tile span (tile_place size t) ≡ meets (box_of x) (tile_rect_of size t))
    → ChangedWhere (has_tile span) (λ p t. merged_tile size p x t) old new → MergedMet size x old new
merged_met span size x old new tests changed = record {
  window = changed.window;
  tiles = λ t within. changed.tiles (tile_place size t) within.within ∙ ap (λ b. merged_where b size t x (tile_in size old t)) (tests t within);
}

-- and so it is counted
pub counted_met : (span : TileSpan) (size : Dimensions) (x : Piece) (old new : CanvasOf) → ((t : ℕ) → IsInWindow size old.window t → has_tile span (tile_place size t) ≡ meets (box_of x) (tile_rect_of size t))
    → ChangedWhere (has_tile span) (λ p t. counted_tile t) old new → CountedMet size x old new
counted_met span size x old new tests changed = record {
  window = changed.window;
  tiles = λ t within. changed.tiles (tile_place size t) within.within ∙ ap (λ b. counted_where b (tile_in size old t)) (tests t within);
}

-- a place of the row that the walk is at stands in the window
pub row_here : (window span : TileSpan) (row column : ℕ) → IsPartOf window span → span.first_row ≤ row → row < span.end_row → span.first_column ≤ column → column < span.end_column → has_tile window (tile_with column row) ≡ true
row_here window span row column part from_row to_row from to = has window (tile_with column row) (record {
  row_from = omega (arith, part.first_row);
  row_before = omega (arith, part.end_row);
  column_from = omega (arith, part.first_column);
  column_before = omega (arith, part.end_column);
})

-- its number, as the walk computes it
pub row_number : (window now : TileSpan) (row column start : ℕ) → now ≡ window → start ≡ row_start_in now row → start + (column - now.first_column) ≡ number_in window (tile_with column row)
row_number window now row column start same is = ap (λ n. n + (column - now.first_column)) is ∙ ap (λ (w : TileSpan). number_in w (tile_with column row)) same

-- the place of a walk, which is in the window, and its number
pub record IsAt (window : TileSpan) (place : Tile) (number : ℕ) : Type 0 where
  pub here : has_tile window place ≡ true
  pub is : number ≡ number_in window place

pub walk_at : (window now span : TileSpan) (row column start : ℕ) → now ≡ window → start ≡ row_start_in now row → IsPartOf window span → span.first_row ≤ row → row < span.end_row → span.first_column ≤ column → column < span.end_column
    → IsAt window (tile_with column row) (start + (column - now.first_column))
walk_at window now span row column start same is part from_row to_row from to = record { here = row_here window span row column part from_row to_row from to; is = row_number window now row column start same is }

-- and that of a place so many columns on, which is one of the canvas's
pub row_number_on : (c : CanvasOf) (now span : TileSpan) (row column start i : ℕ) → now ≡ c.window → start ≡ row_start_in now row → IsCanvas c → IsPartOf c.window span
    → span.first_row ≤ row → row < span.end_row → span.first_column ≤ column → column + i < span.end_column
    → (start + (column - now.first_column) + i ≡ number_in c.window (tile_with (column + i) row)) × (number_in c.window (tile_with (column + i) row) < length c.tiles)
row_number_on c now span row column start i same is whole part from_row to_row from to =
    let here = row_here c.window span row (column + i) part from_row to_row (omega (arith, from)) to in
    let first = ap (λ (w : TileSpan). w.first_column) same in
    let on : start + (column - now.first_column) + i ≡ start + (column + i - now.first_column) = omega (arith, first, from, part.first_column) in
    let below = number_within c.window (tile_with (column + i) row) here in
    (on ∙ row_number c.window now row (column + i) start same is, omega (arith, below, whole))

-- the number of a tile so many columns on
pub number_on : (window : TileSpan) (column row n i : ℕ) → window.first_column ≤ column → n ≡ number_in window (tile_with column row) → n + i ≡ number_in window (tile_with (column + i) row)
number_on window column row n i le is = on (row_start_in window row) column window.first_column n i le is
  where
    on : (start column first n i : ℕ) → first ≤ column → n ≡ start + (column - first) → n + i ≡ start + (column + i - first)
    on start column first n i le is = omega (arith, le, is)

-- and of the one below it, as many on as the window has columns
pub number_next_row : (window : TileSpan) (column row n columns : ℕ) → window.first_row ≤ row → columns ≡ columns_in window → n ≡ number_in window (tile_with column row) → n + columns ≡ number_in window (tile_with column (row + 1))
number_next_row window column row n columns le same is =
    let past = column - window.first_column in
    let e : suc (row - window.first_row) ≡ row + 1 - window.first_row = omega (arith, le) in
    ap (λ m. n + m) same ∙ one_more_of (row - window.first_row) (columns_in window) past n is ∙ ap (λ m. m * columns_in window + past) e
  where
    one_more_of : (a c d n : ℕ) → n ≡ a * c + d → n + c ≡ suc a * c + d
    one_more_of a c d n is = omega (arith, is)

-- it stands in the row, in the columns of the span
pub row_in_span : (span : TileSpan) (row column : ℕ) → span.first_column ≤ column → column < span.end_column → is_in_row span row (tile_with column row) ≡ true
row_in_span span row column from to = and_from (nat_eq row row) (is_between span.first_column span.end_column column) (eq-eqb row row refl) (between span.first_column span.end_column column from to)

-- of the tiles of a window, a span cut to it has those that the piece's box meets
pub met_in_cut : (size : Dimensions) (x : Piece) (window given reached cut : TileSpan) (r : Rect) → given ≡ window → r ≡ box_of x → HasTilesOf reached size r → ((p : Tile) → has_tile cut p ≡ (has_tile reached p && has_tile given p))
    → (t : ℕ) → IsInWindow size window t → has_tile cut (tile_place size t) ≡ meets (box_of x) (tile_rect_of size t)
met_in_cut size x window given reached cut r same is tiles cuts t within =
    let p = tile_place size t in
    cuts p ∙ ap (λ b. has_tile reached p && b) (ap (λ (w : TileSpan). has_tile w p) same ∙ within.within) ∙ and-true (has_tile reached p) ∙ tiles t within.on_screen ∙ ap (λ (s : Rect). meets s (tile_rect_of size t)) is
  where
    and-true : (b : Bool) → (b && true) ≡ b
    and-true true = refl
    and-true false = refl

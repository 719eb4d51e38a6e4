-- The writers of a window's tiles, of which one more stores a member.
use Rattle.std.proofs.Common.{◌≡◌, ℕ, inl, inr, ◌+◌, ◌*◌, ◌<◌, ◌≤◌, ◌||◌, ◌&&◌, Bool, true, false, cond, List, length, length-set, set, arith, refl, ap, ◌∙◌, sym, subst}
use Rattle.std.specs.Prelude.{slice_index_or}
use Rattle.std.proofs.lemmas.Bool.{and_left, cases_eq}
use Rattle.std.proofs.lemmas.Bool.Decides.{eqb_tells}
use Rattle.std.proofs.lemmas.List.{get_or-set_same, get_or-set_other}
use Rattle.std.proofs.lemmas.Nat.{div-add-mod'}
use Rattle.atomic_table.specs.Seated.{TableId}
use Rattle.cull_base.specs.Piece.{Piece, box_of}
use Rattle.cull_base.specs.Rectangle.{meets}
use Rattle.cull_base.specs.Screen.{Dimensions, tile_columns_of, tile_place, tile_rect_of}
use Rattle.cull_base.specs.Span.{IsPartOf, IsSpan, has_column, has_tile, number_in, tiles_in}
use Rattle.cull_base.specs.Tiles.{PieceList}
use Rattle.cull_base.specs.declared.place.Tile.{Tile}
use Rattle.cull_base.specs.declared.tile_span.TileSpan.{TileSpan}
use Rattle.masked_update.specs.Walk.{is_in_row}
use Rattle.masked_update.proofs.Grid.{grows_elsewhere, before, last_between}
use Rattle.masked_update.proofs.Tiles.{tile_with, has, number_within, on_screen, one_place}
use Rattle.masked_update.proofs.Walks.{columns_before, rows_before, rows_begin, row_begins, row_elsewhere, row_here, row_off, row_on}
use Rattle.tile_cells.specs.Cells.{Writing}
use Rattle.tile_cells.specs.Standing.{StandsAt}
use Rattle.tile_cells.proofs.Members.{rank_missed}
use Rattle.masked_update.specs.Canvas.{IsInWindow}
use Rattle.tile_queues.specs.CellBins.{HasMet, HasStored, Stands, is_passed}

or_false : (b : Bool) → (b || false) ≡ b
or_false true = refl
or_false false = refl

-- before the first column of a row stand the rows before it
pub rows_passed : (span : TileSpan) (row : ℕ) (p : Tile) → is_passed span row span.first_column p ≡ has_tile (rows_before span row) p
rows_passed span row p = ap (λ b. has_tile (rows_before span row) p || b) (row_begins span row p) ∙ or_false (has_tile (rows_before span row) p)

pub none_passed : (span : TileSpan) (p : Tile) → is_passed span span.first_row span.first_column p ≡ false
none_passed span p = rows_passed span span.first_row p ∙ rows_begin span p

-- behind the last column of a row begins the next row
pub row_passed : (span : TileSpan) (row : ℕ) (p : Tile) → span.first_row ≤ row → is_passed span row span.end_column p ≡ is_passed span (row + 1) span.first_column p
row_passed span row p le = by ∙ sym (rows_passed span (row + 1) p)
  where
    by : is_passed span row span.end_column p ≡ has_tile (rows_before span (row + 1)) p
    by = elim (eqb_tells p.row row) [
      | inl on ↦
          ap (λ b. b || is_in_row span row p) (and_left _ (has_column span p.column) (before span.first_row row p.row on.1))
          ∙ ap (λ b. b && has_column span p.column) (on.0 ∙ sym (last_between span.first_row row p.row le on.1))
      | inr off ↦
          ap (λ b. has_tile (rows_before span row) p || b) (and_left _ (has_column span p.column) off.0) ∙ or_false (has_tile (rows_before span row) p)
          ∙ ap (λ b. b && has_column span p.column) (grows_elsewhere span.first_row row p.row off.1)
    ]

-- a place that the walk is at
not_passed : (span : TileSpan) (row column : ℕ) → is_passed span row column (tile_with column row) ≡ false
not_passed span row column =
    ap (λ b. b || is_in_row (columns_before span column) row (tile_with column row)) (and_left _ (has_column span column) (before span.first_row row row refl))
    ∙ row_off span row column (tile_with column row) refl

now_passed : (span : TileSpan) (row column : ℕ) → span.first_column ≤ column → is_passed span row (column + 1) (tile_with column row) ≡ true
now_passed span row column le =
    ap (λ b. b || is_in_row (columns_before span (column + 1)) row (tile_with column row)) (and_left _ (has_column span column) (before span.first_row row row refl))
    ∙ row_on span row column (tile_with column row) refl refl le

passed_elsewhere : (span : TileSpan) (row column : ℕ) (p : Tile) → (p ≡ tile_with column row → ⊥) → is_passed span row column p ≡ is_passed span row (column + 1) p
passed_elsewhere span row column p ne = ap (λ b. has_tile (rows_before span row) p || b) (row_elsewhere span row column (tile_with column row) p refl refl ne)

pub stored_as : (test other : Tile → Bool) (cells : List TableId) (list : PieceList) (window : TileSpan) (k : ℕ) (ws : List Writing) → ((p : Tile) → test p ≡ other p) → HasStored test cells list window k ws → HasStored other cells list window k ws
stored_as test other cells list window k ws same s = record {
  whole = s.whole;
  each = λ t d within. subst (λ b. StandsAt cells list (cond b (k + 1) k) t (slice_index_or ws (number_in window (tile_place list.size t)) d)) (same (tile_place list.size t)) (s.each t d within);
}

-- a row more is passed
pub row_stored : (cells : List TableId) (list : PieceList) (window span : TileSpan) (k row : ℕ) (ws : List Writing) → span.first_row ≤ row → HasStored (is_passed span row span.end_column) cells list window k ws → HasStored (is_passed span (row + 1) span.first_column) cells list window k ws
row_stored cells list window span k row ws le s =
    stored_as (is_passed span row span.end_column) (is_passed span (row + 1) span.first_column) cells list window k ws (λ p. row_passed span row p le) s

-- all rows are
pub span_stored : (cells : List TableId) (list : PieceList) (window span : TileSpan) (k row : ℕ) (ws : List Writing) → row ≡ span.end_row → HasStored (is_passed span row span.first_column) cells list window k ws → HasStored (has_tile span) cells list window k ws
span_stored cells list window span k row ws end s =
    let last = subst (λ r. HasStored (is_passed span r span.first_column) cells list window k ws) end s in
    stored_as (is_passed span span.end_row span.first_column) (has_tile span) cells list window k ws (rows_passed span span.end_row) last

-- one place, one tile
pub same_tile : (size : Dimensions) (t u : ℕ) → tile_place size t ≡ tile_place size u → t ≡ u
same_tile size t u e =
    let c = tile_columns_of size in
    sym (div-add-mod' t c) ∙ ap (λ (p : Tile). p.row * c + p.column) e ∙ div-add-mod' u c

module _ (cells : List TableId) (list : PieceList) (window span : TileSpan) (k row column n : ℕ) (ws : List Writing)
    (fits : IsSpan list.size window) (part : IsPartOf window span) (from_row : span.first_row ≤ row) (to_row : row < span.end_row) (from : span.first_column ≤ column) (to : column < span.end_column)
    (is : n ≡ number_in window (tile_with column row)) (stored : HasStored (is_passed span row column) cells list window k ws) where
  abbrev q : Tile
  q = tile_with column row

  here : has_tile window q ≡ true
  here = row_here window span row column part from_row to_row from to

  abbrev tile : ℕ
  tile = (on_screen list.size window q fits here).0

  place_is : tile_place list.size tile ≡ q
  place_is = (on_screen list.size window q fits here).2

  pub inside : n < length ws
  inside = let lt = number_within window q here in let whole = stored.whole in omega (arith, lt, whole, is)

  there : (w : Writing) → w ≡ slice_index_or ws n w → StandsAt cells list k tile w
  there w e =
      let at = stored.each tile w (on_screen list.size window q fits here).1 in
      let placed = subst (λ (p : Tile). StandsAt cells list (cond (is_passed span row column p) (k + 1) k) tile (slice_index_or ws (number_in window p) w)) place_is at in
      let counted = subst (λ b. StandsAt cells list (cond b (k + 1) k) tile (slice_index_or ws (number_in window q) w)) (not_passed span row column) placed in
      subst (StandsAt cells list k tile) (ap (λ m. slice_index_or ws m w) (sym is) ∙ sym e) counted

  pub stands_here : (w : Writing) → w ≡ slice_index_or ws n w → Stands cells list k w
  stands_here w e = let s = there w e in subst (λ t. StandsAt cells list k t w) (sym s.tile_is) s

  pub row_is : (w : Writing) → w ≡ slice_index_or ws n w → (tile_place list.size w.tile).row ≡ row
  row_is w e = ap (λ t. (tile_place list.size t).row) (there w e).tile_is ∙ ap (λ (p : Tile). p.row) place_is

  pub met_here : (x : Piece) (w : Writing) → w ≡ slice_index_or ws n w → HasMet list.size window span x → meets (box_of x) (tile_rect_of list.size w.tile) ≡ true
  met_here x w e met =
      let in_span : has_tile span q ≡ true = has span q (record { row_from = from_row; row_before = to_row; column_from = from; column_before = to }) in
      ap (λ t. meets (box_of x) (tile_rect_of list.size t)) (there w e).tile_is ∙ sym (met tile (on_screen list.size window q fits here).1) ∙ ap (has_tile span) place_is ∙ in_span

  pub stored_more : (w new : Writing) → w ≡ slice_index_or ws n w → new.tile ≡ w.tile → Stands cells list (k + 1) new → HasStored (is_passed span row (column + 1)) cells list window k (set ws n new)
  stored_more w new e same stands = record {
    whole = length-set ws n new ∙ stored.whole;
    each = λ t d within.
        let p = tile_place list.size t in
        elim (cases_eq (number_in window p) n) [
          | inl number ↦
              let placed : p ≡ q = one_place window p q within.within here (number ∙ is) in
              let mine : new.tile ≡ t = same ∙ (there w e).tile_is ∙ sym (same_tile list.size t tile (placed ∙ sym place_is)) in
              let on : is_passed span row (column + 1) p ≡ true = ap (is_passed span row (column + 1)) placed ∙ now_passed span row column from in
              let read : slice_index_or (set ws n new) (number_in window p) d ≡ new = ap (λ m. slice_index_or (set ws n new) m d) number ∙ get_or-set_same ws n new d inside in
              let at : StandsAt cells list (k + 1) t new = subst (λ u. StandsAt cells list (k + 1) u new) mine stands in
              subst (StandsAt cells list (cond (is_passed span row (column + 1) p) (k + 1) k) t) (sym read) (subst (λ b. StandsAt cells list (cond b (k + 1) k) t new) (sym on) at)
          | inr ne ↦
              let other : p ≡ q → ⊥ = λ z. ne (ap (number_in window) z ∙ sym is) in
              let read : slice_index_or (set ws n new) (number_in window p) d ≡ slice_index_or ws (number_in window p) d = get_or-set_other ws n (number_in window p) new d ne in
              subst (StandsAt cells list (cond (is_passed span row (column + 1) p) (k + 1) k) t) (sym read)
              (subst (λ b. StandsAt cells list (cond b (k + 1) k) t (slice_index_or ws (number_in window p) d)) (passed_elsewhere span row column p other) (stored.each t d within))
        ];
  }

-- where the span has what the piece's box meets, all stand at one member more
pub all_stored : (cells : List TableId) (list : PieceList) (window span : TileSpan) (k : ℕ) (x : Piece) (ws : List Writing) → k < length list.members → slice_index_or list.members k x ≡ x → HasMet list.size window span x → HasStored (has_tile span) cells list window k ws
    → (t : ℕ) (d : Writing) → IsInWindow list.size window t → StandsAt cells list (k + 1) t (slice_index_or ws (number_in window (tile_place list.size t)) d)
all_stored cells list window span k x ws lt is met stored t d within = by (has_tile span (tile_place list.size t)) refl (stored.each t d within)
  where
    by : (b : Bool) → has_tile span (tile_place list.size t) ≡ b → StandsAt cells list (cond b (k + 1) k) t (slice_index_or ws (number_in window (tile_place list.size t)) d)
        → StandsAt cells list (k + 1) t (slice_index_or ws (number_in window (tile_place list.size t)) d)
    by true e s = s
    by false e s = record { at = s.at; tile_is = s.tile_is; list_is = s.list_is; count = s.count ∙ sym (rank_missed t list k x lt is (sym (met t within) ∙ e)) }

-- and before any is passed all stand at the same
pub none_stored : (cells : List TableId) (list : PieceList) (window span : TileSpan) (k : ℕ) (ws : List Writing) → length ws ≡ tiles_in window
    → ((t : ℕ) (d : Writing) → IsInWindow list.size window t → StandsAt cells list k t (slice_index_or ws (number_in window (tile_place list.size t)) d))
    → HasStored (is_passed span span.first_row span.first_column) cells list window k ws
none_stored cells list window span k ws whole each = record {
  whole = whole;
  each = λ t d within. subst (λ b. StandsAt cells list (cond b (k + 1) k) t (slice_index_or ws (number_in window (tile_place list.size t)) d)) (sym (none_passed span (tile_place list.size t))) (each t d within);
}

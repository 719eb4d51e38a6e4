-- Tiles that a reader has read, one more at a time.
use Rattle.std.proofs.Common.{◌≡◌, ⊎_elim, ℕ, ◌+◌, ◌*◌, ◌/◌, ◌%◌, ◌<◌, ◌≤◌, Bool, true, false, ◌&&◌, ◌||◌, nat_eq, nat_lt, length, refl, sym, ap, ◌∙◌, subst, arith}
use Rattle.std.specs.Prelude.{slice_index, slice_set}
use Rattle.std.proofs.Math.Nat.{div-add-mod}
use Rattle.std.proofs.lemmas.Bool.{cases_eq}
use Rattle.std.proofs.lemmas.Bool.Decides.{nat_tests}
use Rattle.std.proofs.lemmas.List.{get_or-set_same, get_or-set_other}
use Rattle.cull_base.specs.Screen.{Dimensions, tile_columns_of, tile_rows_of, tile_count_of, tile_place}
use Rattle.cull_base.specs.Span.{has_tile, is_between, HasTilesOf, IsSpan}
use Rattle.cull_base.specs.Tiles.{PieceList, tile_list}
use Rattle.cull_base.specs.declared.rect.Rect.{Rect}
use Rattle.cull_base.specs.declared.tile_span.TileSpan.{TileSpan}
use Rattle.masked_update.specs.Grid.{is_in_rows}
use Rattle.masked_update.specs.TileOf.{TileOf, tile_at, no_tile}
use Rattle.masked_update.specs.Taken.{standing_at}
use Rattle.masked_update.proofs.Grid.{place, number_below, grows_elsewhere}
use Rattle.tile_cells.specs.Cells.{Reading}
use Rattle.tile_cells.specs.Snapshots.{SnapshotOf, HoldsExactly, ReadIf, ReadOnce, ReadWhere, Unread}

-- ---- tests

-- what the columns before one and the tile in that column have
module _ (columns row first column t : ℕ) (lt : column < columns) (le : first ≤ column) where
  tile : ℕ
  tile = row * columns + column

  here : t ≡ row * columns + column → (t / columns ≡ row) × (t % columns ≡ column)
  here e = let p = place row columns column lt in (ap (λ n. n / columns) e ∙ p.0, ap (λ n. n % columns) e ∙ p.1)

  back : t / columns ≡ row → t % columns ≡ column → t ≡ row * columns + column
  back q m = sym (div-add-mod t columns) ∙ (λ i. columns * q i + m i) ∙ omega arith

  pub column_apart : is_in_rows columns row (row + 1) first column t ≡ true → nat_eq t (row * columns + column) ≡ false
  column_apart h = ⊎_elim
      (λ (e : t ≡ row * columns + column). absurd (let m = (here e).1 in by_place (t / columns) (t % columns) m h))
      (λ (ne : t ≡ row * columns + column → ⊥). grind (arith, nat_tests)) (cases_eq t (row * columns + column))
    where
      by_place : (q m : ℕ) → m ≡ column → (is_between row (row + 1) q && is_between first column m) ≡ true → ⊥
      by_place q m e h = grind (arith, nat_tests)

  pub column_more : is_in_rows columns row (row + 1) first (column + 1) t ≡ (is_in_rows columns row (row + 1) first column t || nat_eq t (row * columns + column))
  column_more = ⊎_elim
      (λ (e : t ≡ row * columns + column). let h = here e in on (t / columns) (t % columns) h.0 h.1 (nat_eq t (row * columns + column)) (grind (arith, nat_tests)))
      (λ (ne : t ≡ row * columns + column → ⊥). off (t / columns) (t % columns) (λ q m. ne (back q m)) (nat_eq t (row * columns + column)) (grind (arith, nat_tests)))
      (cases_eq t (row * columns + column))
    where
      on : (q m : ℕ) → q ≡ row → m ≡ column → (b : Bool) → b ≡ true
          → (is_between row (row + 1) q && is_between first (column + 1) m) ≡ ((is_between row (row + 1) q && is_between first column m) || b)
      on q m eq em b e = grind (arith, nat_tests)

      off : (q m : ℕ) → (q ≡ row → m ≡ column → ⊥) → (b : Bool) → b ≡ false
          → (is_between row (row + 1) q && is_between first (column + 1) m) ≡ ((is_between row (row + 1) q && is_between first column m) || b)
      off q m ne b e = ⊎_elim
          (λ (eq : q ≡ row). let elsewhere = grows_elsewhere first column m (ne eq) in grind (arith, nat_tests))
          (λ (nq : q ≡ row → ⊥). grind (arith, nat_tests)) (cases_eq q row)

pub no_columns : (columns row first t : ℕ) → is_in_rows columns row (row + 1) first first t ≡ false
no_columns columns row first t = by (t / columns) (t % columns)
  where
    by : (q m : ℕ) → (is_between row (row + 1) q && is_between first first m) ≡ false
    by q m = grind (arith, nat_tests)

pub no_rows : (columns row first end t : ℕ) → is_in_rows columns row row first end t ≡ false
no_rows columns row first end t = by (t / columns) (t % columns)
  where
    by : (q m : ℕ) → (is_between row row q && is_between first end m) ≡ false
    by q m = grind (arith, nat_tests)

pub row_apart : (columns top row first end t : ℕ) → is_in_rows columns top row first end t ≡ true → is_in_rows columns row (row + 1) first end t ≡ false
row_apart columns top row first end t h = by (t / columns) (is_between first end (t % columns)) h
  where
    by : (q : ℕ) (b : Bool) → (is_between top row q && b) ≡ true → (is_between row (row + 1) q && b) ≡ false
    by q b h = grind (arith, nat_tests)

pub row_more : (columns top row first end t : ℕ) → top ≤ row → is_in_rows columns top (row + 1) first end t ≡ (is_in_rows columns top row first end t || is_in_rows columns row (row + 1) first end t)
row_more columns top row first end t le = by (t / columns) (is_between first end (t % columns))
  where
    by : (q : ℕ) (b : Bool) → (is_between top (row + 1) q && b) ≡ ((is_between top row q && b) || (is_between row (row + 1) q && b))
    by q true = grind (arith, nat_tests)
    by q false = grind (arith, nat_tests)

-- ---- reads

pub none_read : (test : ℕ → Bool) (r : Reading) (s : SnapshotOf) → ((t : ℕ) → test t ≡ false) → ReadWhere test r r s s
none_read test r s none = record {
  cells = refl;
  list = refl;
  size = refl;
  each = λ t lt. subst (λ b. ReadIf b t r r s s) (sym (none t)) (record { loads = refl; seen = refl; state = refl });
}

pub read_same : (f g : ℕ → Bool) (old new : Reading) (was s : SnapshotOf) → ((t : ℕ) → t < tile_count_of was.size → f t ≡ g t) → ReadWhere f old new was s → ReadWhere g old new was s
read_same f g old new was s same r = record {
  cells = r.cells;
  list = r.list;
  size = r.size;
  each = λ t lt. subst (λ b. ReadIf b t old new was s) (same t lt) (r.each t lt);
}

-- one after the other, of different tiles
pub read_also : (f g h : ℕ → Bool) (old mid new : Reading) (was then now : SnapshotOf) → ReadWhere f old mid was then → ReadWhere g mid new then now
    → ((t : ℕ) → f t ≡ true → g t ≡ false) → ((t : ℕ) → h t ≡ (f t || g t)) → ReadWhere h old new was now
read_also f g h old mid new was then now p q apart both = record {
  cells = q.cells ∙ p.cells;
  list = q.list ∙ p.list;
  size = q.size ∙ p.size;
  each = λ t lt. subst (λ b. ReadIf b t old new was now) (sym (both t)) (by t (f t) (g t) (apart t) (p.each t lt) (q.each t (subst (λ s. t < tile_count_of s) (sym p.size) lt)));
}
  where
    by : (t : ℕ) (a b : Bool) → (a ≡ true → b ≡ false) → ReadIf a t old mid was then → ReadIf b t mid new then now → ReadIf (a || b) t old new was now
    by t true true never x y = let e : true ≡ false = never refl in cc
    by t true false never x y = record {
      loads = y.loads ∙ x.loads;
      rises = subst (λ n. slice_index old.seen t ≤ n) (sym y.seen) x.rises;
      within = subst (λ n. n ≤ length (tile_list t old.list)) (sym y.seen) x.within;
      state = y.state ∙ x.state ∙ ap (λ n. standing_at t n old.list) (sym y.seen);
    }
    by t false true never x y = record {
      loads = y.loads ∙ ap (λ n. n + 1) x.loads;
      rises = subst (λ n. n ≤ slice_index new.seen t) x.seen y.rises;
      within = subst (λ (l : PieceList). slice_index new.seen t ≤ length (tile_list t l)) p.list y.within;
      state = y.state ∙ ap (λ (l : PieceList). standing_at t (slice_index new.seen t) l) p.list;
    }
    by t false false never x y = record { loads = y.loads ∙ x.loads; seen = y.seen ∙ x.seen; state = y.state ∙ x.state }

-- one tile
module _ (old new : Reading) (was now : SnapshotOf) (n m : ℕ) (tile : TileOf) (on : n < tile_count_of was.size) (own : tile_count_of was.size ≡ m) (seen : length old.seen ≡ m) (loads : length old.loads ≡ m) (slots : length was.tiles ≡ tile_count_of was.size)
    (read : new ≡ record old { seen = slice_set old.seen n tile.count; loads = slice_set old.loads n (slice_index old.loads n + 1) }) (put : now ≡ record was { tiles = slice_set was.tiles n tile })
    (rises : slice_index old.seen n ≤ tile.count) (within : tile.count ≤ length (tile_list n old.list)) (state : tile ≡ standing_at n tile.count old.list) where
  seen_now : slice_index new.seen n ≡ tile.count
  seen_now = ap (λ (r : Reading). slice_index r.seen n) read ∙ get_or-set_same old.seen n tile.count 0 (omega arith)

  loads_now : slice_index new.loads n ≡ slice_index old.loads n + 1
  loads_now = ap (λ (r : Reading). slice_index r.loads n) read ∙ get_or-set_same old.loads n (slice_index old.loads n + 1) 0 (omega arith)

  tile_now : tile_at now.tiles n ≡ tile
  tile_now = ap (λ (s : SnapshotOf). tile_at s.tiles n) put ∙ get_or-set_same was.tiles n tile no_tile (omega arith)

  once : ReadOnce n old new now
  once = record {
    loads = loads_now;
    rises = subst (λ k. slice_index old.seen n ≤ k) (sym seen_now) rises;
    within = subst (λ k. k ≤ length (tile_list n old.list)) (sym seen_now) within;
    state = tile_now ∙ state ∙ ap (λ k. standing_at n k old.list) (sym seen_now);
  }

  other : (t : ℕ) → (t ≡ n → ⊥) → Unread t old new was now
  other t ne = record {
    loads = ap (λ (r : Reading). slice_index r.loads t) read ∙ get_or-set_other old.loads n t (slice_index old.loads n + 1) 0 ne;
    seen = ap (λ (r : Reading). slice_index r.seen t) read ∙ get_or-set_other old.seen n t tile.count 0 ne;
    state = ap (λ (s : SnapshotOf). tile_at s.tiles t) put ∙ get_or-set_other was.tiles n t tile no_tile ne;
  }

  pub one_read : ReadWhere (λ t. nat_eq t n) old new was now
  one_read = record {
    cells = ap (λ (r : Reading). r.cells) read;
    list = ap (λ (r : Reading). r.list) read;
    size = ap (λ (s : SnapshotOf). s.size) put;
    each = λ t lt. ⊎_elim
        (λ (e : t ≡ n). subst (λ k. ReadIf (nat_eq k n) k old new was now) (sym e) (subst (λ b. ReadIf b n old new was now) (sym (same n)) once))
        (λ (ne : t ≡ n → ⊥). subst (λ b. ReadIf b t old new was now) (sym (differs t ne)) (other t ne)) (cases_eq t n);
  }
    where
      same : (k : ℕ) → nat_eq k k ≡ true
      same k = grind (arith, nat_tests)

      differs : (t : ℕ) → (t ≡ n → ⊥) → nat_eq t n ≡ false
      differs t ne = grind (arith, nat_tests)

-- ---- a whole area

pub held_exactly : (s : SnapshotOf) (span : TileSpan) (area : Rect) → s.span ≡ span → HasTilesOf span s.size area → HoldsExactly s area
held_exactly s span area is tiles t lt = inside (has_tile s.span (tile_place s.size t)) ∙ ap (λ p. has_tile p (tile_place s.size t)) is ∙ tiles t lt
  where
    inside : (b : Bool) → (nat_lt t (tile_count_of s.size) && b) ≡ b
    inside b = let on : nat_lt t (tile_count_of s.size) ≡ true = grind (arith, nat_tests) in ap (λ a. a && b) on

-- the tile in a row and a column of a span
pub number_on : (size : Dimensions) (span : TileSpan) (row column columns : ℕ) → columns ≡ tile_columns_of size → IsSpan size span → row < span.end_row → column < span.end_column → row * columns + column < tile_count_of size
number_on size span row column columns is s row_lt column_lt =
    let rows_le = s.rows_within in
    let columns_le = s.columns_within in
    subst (λ n. row * n + column < tile_count_of size) (sym is) (number_below row (tile_rows_of size) column (tile_columns_of size) (omega (arith, row_lt, rows_le)) (omega (arith, column_lt, columns_le)))

-- a row of which one column more is read
pub columns_read : (old mid new : Reading) (was then now : SnapshotOf) (columns row first column n : ℕ) → column < columns → first ≤ column → n ≡ row * columns + column
    → ReadWhere (is_in_rows columns row (row + 1) first column) old mid was then → ReadWhere (λ t. nat_eq t n) mid new then now → ReadWhere (is_in_rows columns row (row + 1) first (column + 1)) old new was now
columns_read old mid new was then now columns row first column n lt le is p q =
    read_also (is_in_rows columns row (row + 1) first column) (λ t. nat_eq t (row * columns + column)) (is_in_rows columns row (row + 1) first (column + 1)) old mid new was then now p
    (subst (λ z. ReadWhere (λ t. nat_eq t z) mid new then now) is q)
    (λ t. column_apart columns row first column t lt le) (λ t. column_more columns row first column t lt le)

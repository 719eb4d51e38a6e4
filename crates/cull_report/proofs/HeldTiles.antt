-- The tiles that a snapshot holds, found row by row.
use Rattle.std.proofs.Common.{◌≡◌, ℕ, zero, suc, ◌+◌, ◌-◌, ◌*◌, ◌/◌, ◌<◌, ◌≤◌, Bool, true, false, ◌&&◌, cond, nat_lt, [], ◌∷◌, ◌++◌, map, length, arith, refl, ap, ◌∙◌, subst, inl, inr}
use Rattle.std.specs.List.{filter, range_with_len}
use Rattle.std.proofs.Math.Nat.{mul-le-mul_right, mod-lt}
use Rattle.std.proofs.lemmas.Bool.{cases_lt}
use Rattle.std.proofs.lemmas.Bool.Decides.{nat_tests}
use Rattle.std.proofs.lemmas.List.{append-nil, length-append, map-append}
use Rattle.std.proofs.lemmas.List.Elements.{filter-append}
use Rattle.std.proofs.lemmas.Nat.{div-add-mod'}
use Rattle.cull_base.specs.declared.place.Tile.{Tile}
use Rattle.cull_base.specs.declared.tile_span.TileSpan.{TileSpan}
use Rattle.cull_base.specs.Screen.{Dimensions, tile_columns_of, tile_rows_of, tile_count_of, tile_place}
use Rattle.cull_base.specs.Span.{IsSpan, has_tile}
use Rattle.cull_base.proofs.Places.{row_below}
use Rattle.masked_update.specs.TileOf.{tile_at}
use Rattle.masked_update.proofs.Grid.{number_below}
use Rattle.masked_update.proofs.Tiles.{place_of_number}
use Rattle.tile_cells.specs.Snapshots.{SnapshotOf, is_held}
use Rattle.cull_report.specs.declared.live_line.TileCount.{TileCount}
use Rattle.cull_report.specs.Live.{tile_count, counts_held}
use Rattle.cull_report.specs.LivePieces.{counts_before}
use Rattle.cull_report.proofs.LiveTexts.{range_more}

-- ---- one tile more

one_kept : (p : ℕ → Bool) (f : ℕ → TileCount) (n : ℕ) (b : Bool) → p n ≡ b → map f (filter p (n ∷ [])) ≡ cond b (f n ∷ []) []
one_kept p f n true e = rw e refl
one_kept p f n false e = rw e refl

pub kept_more : (p : ℕ → Bool) (f : ℕ → TileCount) (n : ℕ) (b : Bool) → p n ≡ b → map f (filter p (range_with_len 0 (n + 1))) ≡ map f (filter p (range_with_len 0 n)) ++ cond b (f n ∷ []) []
kept_more p f n b e =
    ap (λ ns. map f (filter p ns)) (range_more n) ∙ ap (map f) (filter-append p (range_with_len 0 n) (n ∷ []))
    ∙ map-append f (filter p (range_with_len 0 n)) (filter p (n ∷ [])) ∙ ap (λ cs. map f (filter p (range_with_len 0 n)) ++ cs) (one_kept p f n b e)

-- a tile that is held is added
pub counts_before-held : (s : SnapshotOf) (n : ℕ) → is_held s n ≡ true → counts_before s (n + 1) ≡ counts_before s n ++ tile_count n (tile_at s.tiles n).count ∷ []
counts_before-held s n e = kept_more (λ t. is_held s t) (λ t. tile_count t (tile_at s.tiles t).count) n true e

-- tiles that are not held change nothing
pub counts_before-quiet : (s : SnapshotOf) (m k : ℕ) → ((t : ℕ) → m ≤ t → t < m + k → is_held s t ≡ false) → counts_before s (m + k) ≡ counts_before s m
counts_before-quiet s m zero none = ap (counts_before s) (omega arith)
counts_before-quiet s m (suc k) none =
    let e : m + suc k ≡ (m + k) + 1 = omega arith in
    ap (counts_before s) e ∙ kept_more (λ t. is_held s t) (λ t. tile_count t (tile_at s.tiles t).count) (m + k) false (none (m + k) (omega arith) (omega arith))
    ∙ append-nil (counts_before s (m + k)) ∙ counts_before-quiet s m k (λ t le lt. none t le (omega (arith, lt)))

pub counts_before-to : (s : SnapshotOf) (m n : ℕ) → m ≤ n → ((t : ℕ) → m ≤ t → t < n → is_held s t ≡ false) → counts_before s n ≡ counts_before s m
counts_before-to s m n le none =
    let e : n ≡ m + (n - m) = omega arith in
    ap (counts_before s) e ∙ counts_before-quiet s m (n - m) (λ t from lt. none t from (omega (arith, lt)))

-- the first tiles are no more than all
pub counts_before-fewer : (s : SnapshotOf) (m k : ℕ) → length (counts_before s m) ≤ length (counts_before s (m + k))
counts_before-fewer s m zero = let e : length (counts_before s m) ≡ length (counts_before s (m + 0)) = ap (λ n. length (counts_before s n)) (omega arith) in omega arith
counts_before-fewer s m (suc k) =
    let one = is_held s (m + k) in
    let e : length (counts_before s (m + suc k)) ≡ length (counts_before s (m + k) ++ cond one (tile_count (m + k) (tile_at s.tiles (m + k)).count ∷ []) []) =
    ap (λ n. length (counts_before s n)) (let n : m + suc k ≡ (m + k) + 1 = omega arith in n) ∙ ap length (kept_more (λ t. is_held s t) (λ t. tile_count t (tile_at s.tiles t).count) (m + k) one refl) in
    let rest = counts_before-fewer s m k in
    omega (arith, e, rest, length-append (counts_before s (m + k)) (cond one (tile_count (m + k) (tile_at s.tiles (m + k)).count ∷ []) []))

-- there is room for a tile that is held
pub room_for_held : (s : SnapshotOf) (n : ℕ) → n < tile_count_of s.size → is_held s n ≡ true → length (counts_before s n) < length (counts_held s)
room_for_held s n lt e =
    let all : (n + 1) + (tile_count_of s.size - (n + 1)) ≡ tile_count_of s.size = omega (arith, lt) in
    let fewer = counts_before-fewer s (n + 1) (tile_count_of s.size - (n + 1)) in
    let whole : length (counts_before s (n + 1)) ≤ length (counts_held s) = subst (λ m. length (counts_before s (n + 1)) ≤ length (counts_before s m)) all fewer in
    let more = ap length (counts_before-held s n e) in
    omega (arith, whole, more, length-append (counts_before s n) (tile_count n (tile_at s.tiles n).count ∷ []))

-- ---- rows and columns

-- whether a tile is held, by its place
held_at : (s : SnapshotOf) (row column : ℕ) → IsSpan s.size s.span → row < tile_rows_of s.size → column < tile_columns_of s.size
    → is_held s (row * tile_columns_of s.size + column) ≡ has_tile s.span (record { column = column; row = row })
held_at s row column span below lt =
    let t = row * tile_columns_of s.size + column in
    let on : nat_lt t (tile_count_of s.size) ≡ true = let b = number_below row (tile_rows_of s.size) column (tile_columns_of s.size) below lt in grind (arith, nat_tests) in
    ap (λ b. b && has_tile s.span (tile_place s.size t)) on ∙ ap (has_tile s.span) (place_of_number s.size row column lt)

pub held_within : (s : SnapshotOf) (row column : ℕ) → IsSpan s.size s.span → s.span.first_row ≤ row → row < s.span.end_row → s.span.first_column ≤ column → column < s.span.end_column
    → (row * tile_columns_of s.size + column < tile_count_of s.size) × (is_held s (row * tile_columns_of s.size + column) ≡ true)
held_within s row column span top bottom left right =
    let rows = span.rows_within in let columns = span.columns_within in
    let below : row < tile_rows_of s.size = omega (arith, rows, bottom) in let lt : column < tile_columns_of s.size = omega (arith, columns, right) in
    let has : has_tile s.span (record { column = column; row = row }) ≡ true = grind (arith, nat_tests) in
    (number_below row (tile_rows_of s.size) column (tile_columns_of s.size) below lt, held_at s row column span below lt ∙ has)

-- a tile that stands in no row of the span isn't held, nor one in no column
not_in_rows : (s : SnapshotOf) (t : ℕ) → has_tile s.span (tile_place s.size t) ≡ false → is_held s t ≡ false
not_in_rows s t e = ap (λ b. nat_lt t (tile_count_of s.size) && b) e ∙ by (nat_lt t (tile_count_of s.size))
  where
    by : (b : Bool) → (b && false) ≡ false
    by true = refl
    by false = refl

no_row : (span : TileSpan) (place : Tile) → place.row < span.first_row → has_tile span place ≡ false
no_row span place lt = grind (arith, nat_tests)

past_rows : (span : TileSpan) (place : Tile) → span.end_row ≤ place.row → has_tile span place ≡ false
past_rows span place le = grind (arith, nat_tests)

no_column : (span : TileSpan) (place : Tile) → place.column < span.first_column → has_tile span place ≡ false
no_column span place lt = grind (arith, nat_tests)

past_columns : (span : TileSpan) (place : Tile) → span.end_column ≤ place.column → has_tile span place ≡ false
past_columns span place le = grind (arith, nat_tests)

-- the column of a tile of a row
column_of : (size : Dimensions) (row t : ℕ) → row * tile_columns_of size ≤ t → t < row * tile_columns_of size + tile_columns_of size → (tile_place size t).column ≡ t - row * tile_columns_of size
column_of size row t le lt =
    let column = t - row * tile_columns_of size in
    let below : column < tile_columns_of size = omega (arith, lt, le) in
    let is : t ≡ row * tile_columns_of size + column = omega (arith, le) in
    ap (λ n. (tile_place size n).column) is ∙ ap (λ (p : Tile). p.column) (place_of_number size row column below)

-- the tiles before the span's columns
pub row_begun : (s : SnapshotOf) (row : ℕ) → IsSpan s.size s.span → counts_before s (row * tile_columns_of s.size + s.span.first_column) ≡ counts_before s (row * tile_columns_of s.size)
row_begun s row span = counts_before-to s (row * tile_columns_of s.size) (row * tile_columns_of s.size + s.span.first_column) (omega arith) (λ t le lt.
    let some = span.columns in let within = span.columns_within in
    let is = column_of s.size row t le (omega (arith, lt, some, within)) in
    not_in_rows s t (no_column s.span (tile_place s.size t) (omega (arith, is, lt, le))))

-- the tiles after them
pub row_ended : (s : SnapshotOf) (row column : ℕ) → IsSpan s.size s.span → s.span.end_column ≤ column → column ≤ tile_columns_of s.size
    → counts_before s ((row + 1) * tile_columns_of s.size) ≡ counts_before s (row * tile_columns_of s.size + column)
row_ended s row column span end within =
    let next : (row + 1) * tile_columns_of s.size ≡ row * tile_columns_of s.size + tile_columns_of s.size = omega arith in
    counts_before-to s (row * tile_columns_of s.size + column) ((row + 1) * tile_columns_of s.size) (omega (arith, next, within)) (λ t le lt.
    let is = column_of s.size row t (omega (arith, le)) (omega (arith, lt, next)) in
    not_in_rows s t (past_columns s.span (tile_place s.size t) (omega (arith, is, le, end))))

-- the tiles of the rows above the span
pub rows_begun : (s : SnapshotOf) → 0 < tile_columns_of s.size → counts_before s (s.span.first_row * tile_columns_of s.size) ≡ []
rows_begun s some = counts_before-to s 0 (s.span.first_row * tile_columns_of s.size) (omega arith) (λ t le lt.
    not_in_rows s t (no_row s.span (tile_place s.size t) (row_below t (tile_columns_of s.size) s.span.first_row some (omega (arith, lt)))))

-- and of those below it
pub rows_ended : (s : SnapshotOf) (row : ℕ) → IsSpan s.size s.span → 0 < tile_columns_of s.size → s.span.end_row ≤ row → row ≤ tile_rows_of s.size → counts_held s ≡ counts_before s (row * tile_columns_of s.size)
rows_ended s row span some end within =
    let columns = tile_columns_of s.size in
    let le : row * columns ≤ tile_rows_of s.size * columns = mul-le-mul_right columns within in
    counts_before-to s (row * columns) (tile_count_of s.size) (omega (arith, le)) (λ t from lt.
    not_in_rows s t (past_rows s.span (tile_place s.size t) (omega (arith, end, row_reached columns row t some from))))
  where
    row_reached : (columns row t : ℕ) → 0 < columns → row * columns ≤ t → row ≤ t / columns
    row_reached columns row t some from = elim (cases_lt (t / columns) row) [
      | inl before ↦
          let fits : suc (t / columns) * columns ≤ row * columns = mul-le-mul_right columns (omega (arith, before)) in
          let rest = mod-lt t some in
          let whole = div-add-mod' t columns in
          absurd (omega (arith, fits, rest, whole, from))
      | inr after ↦ after
    ]

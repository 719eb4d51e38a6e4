-- How many tiles a line has to have room for.
use Rattle.std.proofs.Common.{◌≡◌, ℕ, zero, suc, ◌+◌, ◌*◌, ◌<◌, ◌≤◌, Bool, true, false, ◌&&◌, nat_lt, [], ◌∷◌, length, arith, refl, ap, ◌∙◌, sym, subst}
use Rattle.std.proofs.lemmas.Bool.Decides.{nat_tests}
use Rattle.std.proofs.lemmas.List.{length-append}
use Rattle.cull_base.specs.declared.rect.Rect.{Rect}
use Rattle.cull_base.specs.declared.tile_span.TileSpan.{TileSpan}
use Rattle.cull_base.specs.Screen.{IsSize, tile_columns_of, tile_count_of, tile_place}
use Rattle.cull_base.specs.Span.{IsSpan, HasTilesOf, has_tile, columns_in, rows_in, tiles_in}
use Rattle.cull_base.proofs.Spans.{columns_some}
use Rattle.masked_update.specs.TileOf.{tile_at}
use Rattle.tile_cells.specs.Snapshots.{SnapshotOf, HoldsExactly, is_held}
use Rattle.cull_report.specs.Live.{tile_count, counts_held}
use Rattle.cull_report.specs.LivePieces.{counts_before}
use Rattle.cull_report.proofs.HeldTiles.{kept_more, row_begun, row_ended, rows_begun, rows_ended}
use Rattle.cull_report.proofs.LiveSnapshots.{kept_alike}

-- a tile adds at most one count
one_more : (s : SnapshotOf) (n : ℕ) → length (counts_before s (n + 1)) ≤ length (counts_before s n) + 1
one_more s n = by (is_held s n) refl
  where
    by : (b : Bool) → is_held s n ≡ b → length (counts_before s (n + 1)) ≤ length (counts_before s n) + 1
    by true e =
        let x = tile_count n (tile_at s.tiles n).count in
        let more = ap length (kept_more (λ t. is_held s t) (λ t. tile_count t (tile_at s.tiles t).count) n true e) in
        omega (arith, more, length-append (counts_before s n) (x ∷ []))
    by false e =
        let more = ap length (kept_more (λ t. is_held s t) (λ t. tile_count t (tile_at s.tiles t).count) n false e) in
        omega (arith, more, length-append (counts_before s n) [])

some_more : (s : SnapshotOf) (n k : ℕ) → length (counts_before s (n + k)) ≤ length (counts_before s n) + k
some_more s n zero = let e : length (counts_before s (n + 0)) ≡ length (counts_before s n) = ap (λ m. length (counts_before s m)) (omega arith) in omega (arith, e)
some_more s n (suc k) =
    let e : length (counts_before s (n + suc k)) ≡ length (counts_before s ((n + k) + 1)) = ap (λ m. length (counts_before s m)) (omega arith) in
    omega (arith, e, one_more s (n + k), some_more s n k)

-- a row adds at most as many as the span has columns
row_more : (s : SnapshotOf) (row : ℕ) → IsSpan s.size s.span → length (counts_before s ((row + 1) * tile_columns_of s.size)) ≤ length (counts_before s (row * tile_columns_of s.size)) + columns_in s.span
row_more s row span =
    let start = row * tile_columns_of s.size in
    let some = span.columns in let within = span.columns_within in
    let ended = ap length (row_ended s row s.span.end_column span (omega arith) within) in
    let begun = ap length (row_begun s row span) in
    let place : (start + s.span.first_column) + columns_in s.span ≡ start + s.span.end_column = omega (arith, some) in
    let between = subst (λ n. length (counts_before s n) ≤ length (counts_before s (start + s.span.first_column)) + columns_in s.span) place (some_more s (start + s.span.first_column) (columns_in s.span)) in
    omega (arith, ended, begun, between)

rows_more : (s : SnapshotOf) (k : ℕ) → IsSpan s.size s.span → 0 < tile_columns_of s.size → length (counts_before s ((s.span.first_row + k) * tile_columns_of s.size)) ≤ columns_in s.span * k
rows_more s zero span some =
    let e : length (counts_before s ((s.span.first_row + 0) * tile_columns_of s.size)) ≡ length (counts_before s (s.span.first_row * tile_columns_of s.size)) =
    ap (λ n. length (counts_before s (n * tile_columns_of s.size))) (let z : s.span.first_row + 0 ≡ s.span.first_row = omega arith in z) in
    let none = ap length (rows_begun s some) in
    omega (arith, e, none)
rows_more s (suc k) span some =
    let e : length (counts_before s ((s.span.first_row + suc k) * tile_columns_of s.size)) ≡ length (counts_before s (((s.span.first_row + k) + 1) * tile_columns_of s.size)) =
    ap (λ n. length (counts_before s (n * tile_columns_of s.size))) (let z : s.span.first_row + suc k ≡ (s.span.first_row + k) + 1 = omega arith in z) in
    let rest = rows_more s k span some in
    omega (arith, e, rest, row_more s (s.span.first_row + k) span)

few_in_span : (s : SnapshotOf) → IsSpan s.size s.span → 0 < tile_columns_of s.size → length (counts_held s) ≤ tiles_in s.span
few_in_span s span some =
    let rows = span.rows in
    let whole = ap length (rows_ended s s.span.end_row span some (omega arith) span.rows_within) in
    let end : s.span.first_row + rows_in s.span ≡ s.span.end_row = omega (arith, rows) in
    let all = subst (λ n. length (counts_before s (n * tile_columns_of s.size)) ≤ columns_in s.span * rows_in s.span) end (rows_more s (rows_in s.span) span some) in
    omega (arith, whole, all)

-- a snapshot of an area holds no more tiles than a span of the tiles that meet the area
pub few_held : (s : SnapshotOf) (area : Rect) (span : TileSpan) → HoldsExactly s area → HasTilesOf span s.size area → IsSpan s.size span → IsSize s.size.width s.size.height → length (counts_held s) ≤ tiles_in span
few_held s area span holds tiles is sized =
    let other : SnapshotOf = record { size = s.size; span = span; tiles = s.tiles } in
    let end = tile_count_of s.size in
    let same = kept_alike (λ t. is_held s t) (λ t. is_held other t) (λ t. tile_count t (tile_at s.tiles t).count) (λ t. tile_count t (tile_at s.tiles t).count) 0 end end (omega arith)
    (λ t lt. holds t lt ∙ sym (tiles t lt) ∙ on (has_tile span (tile_place s.size t)) t lt) (λ t lt met. refl) in
    omega (arith, ap length same, few_in_span other is (columns_some s.size sized))
  where
    on : (b : Bool) (t : ℕ) → t < tile_count_of s.size → b ≡ (nat_lt t (tile_count_of s.size) && b)
    on b t lt = let e : nat_lt t (tile_count_of s.size) ≡ true = grind (arith, nat_tests) in ap (λ a. a && b) (sym e)

-- nor more than the screen has
pub few_on_screen : (s : SnapshotOf) → length (counts_held s) ≤ tile_count_of s.size
few_on_screen s =
    let all = some_more s 0 (tile_count_of s.size) in
    let e : length (counts_before s (0 + tile_count_of s.size)) ≡ length (counts_held s) = ap (λ n. length (counts_before s n)) (omega arith) in
    let none : length (counts_before s 0) ≡ 0 = refl in
    omega (arith, all, e, none)

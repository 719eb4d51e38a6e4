use Rattle.std.proofs.Common.{◌≡◌, ℕ, ◌+◌, ◌*◌, ◌<◌, ◌≤◌, ◌++◌, List, [], ◌∷◌, true, length, vec_capacity, arith, sym, ap, ◌∙◌, subst}
use Rattle.cull_base.specs.declared.tile_span.TileSpan.{TileSpan}
use Rattle.cull_base.specs.Screen.{tile_columns_of, tile_count_of}
use Rattle.cull_base.specs.Span.{IsSpan}
use Rattle.masked_update.specs.TileOf.{tile_at}
use Rattle.tile_cells.specs.Snapshots.{SnapshotOf, is_held}
use Rattle.cull_report.specs.declared.live_line.TileCount.{TileCount}
use Rattle.cull_report.specs.Live.{tile_count, counts_held}
use Rattle.cull_report.specs.LivePieces.{counts_before}
use Rattle.cull_report.proofs.HeldTiles.{counts_before-held, held_within, room_for_held, row_begun, row_ended}
use Rattle.cull_report.proofs.live_line.push_row.Goals as goal

-- a tile of the row, within the columns of the span that the snapshot told
within : (s : SnapshotOf) (told : TileSpan) (row column : ℕ) → told ≡ s.span → IsSpan s.size told → (s.span.first_row ≤ row) × (row < s.span.end_row) → told.first_column ≤ column → column < told.end_column
    → (row * tile_columns_of s.size + column < tile_count_of s.size) × (is_held s (row * tile_columns_of s.size + column) ≡ true)
within s told row column is span rows left right =
    let first = ap (λ (x : TileSpan). x.first_column) is in let end = ap (λ (x : TileSpan). x.end_column) is in
    held_within s row column (subst (IsSpan s.size) is span) rows.0 rows.1 (omega (arith, first, left)) (omega (arith, end, right))

pub loop-column-init : goal.loop-column-init
loop-column-init c =
    let s = c.args.view.now in
    let span : IsSpan s.size s.span = subst (IsSpan s.size) c.span-span.ensures.value c.span-span.ensures.within in
    let first : c.span-span.result.first_column ≡ s.span.first_column = ap (λ (x : TileSpan). x.first_column) c.span-span.ensures.value in
    record {
      counts = c.requires.before ∙ sym (row_begun s c.args.row span) ∙ ap (λ (n : ℕ). counts_before s (c.args.row * tile_columns_of s.size + n)) (sym first);
      room = λ i. vec_capacity c.args.counts.now;
    }

pub count-count-requires : goal.count-count-requires
count-count-requires c =
    let s = c.args.view.now in
    let columns : c.tile_columns.result ≡ tile_columns_of s.size = c.tile_columns.ensures.value ∙ ap tile_columns_of c.size-size.ensures in
    let on = within s c.span-span.result c.args.row c.loop-column.column c.span-span.ensures.value c.span-span.ensures.within c.requires.row c.loop-column.auto.column c.loop-column-test.true in
    subst (λ (n : ℕ). is_held s (c.args.row * n + c.loop-column.column) ≡ true) (sym columns) on.1

pub push_reserved-requires : goal.push_reserved-requires
push_reserved-requires c =
    let s = c.args.view.now in
    let n = c.args.row * tile_columns_of s.size + c.loop-column.column in
    let on = within s c.span-span.result c.args.row c.loop-column.column c.span-span.ensures.value c.span-span.ensures.within c.requires.row c.loop-column.auto.column c.loop-column-test.true in
    let fewer : length (counts_before s n) < length (counts_held s) = room_for_held s n on.0 on.1 in
    let so_far : length c.loop-column.counts.items ≡ length (counts_before s n) = ap length c.loop-column.invariant.counts in
    omega (arith, fewer, so_far, c.loop-column.invariant.room, c.requires.room, c.loop-column.counts.ok.0)

pub loop-column-preserved : goal.loop-column-preserved
loop-column-preserved c =
    let s = c.args.view.now in
    let row = c.args.row in let column = c.loop-column.column in
    let columns : c.tile_columns.result ≡ tile_columns_of s.size = c.tile_columns.ensures.value ∙ ap tile_columns_of c.size-size.ensures in
    let n = row * tile_columns_of s.size + column in
    let on = within s c.span-span.result row column c.span-span.ensures.value c.span-span.ensures.within c.requires.row c.loop-column.auto.column c.loop-column-test.true in
    let told : ℕ → TileCount = λ (t : ℕ). tile_count t (tile_at s.tiles t).count in
    let last : tile_count (row * c.tile_columns.result + column) c.count-count.result ≡ told n =
    ap (tile_count (row * c.tile_columns.result + column)) c.count-count.ensures ∙ ap (λ (k : ℕ). told (row * k + column)) columns in
    let next : n + 1 ≡ row * tile_columns_of s.size + (column + 1) = omega arith in
    record {
      counts = c.push_reserved.ensures.items ∙ ap (λ (cs : List TileCount). cs ++ tile_count (row * c.tile_columns.result + column) c.count-count.result ∷ []) c.loop-column.invariant.counts
          ∙ ap (λ (x : TileCount). counts_before s n ++ x ∷ []) last ∙ sym (counts_before-held s n on.1) ∙ ap (counts_before s) next;
      room = c.push_reserved.ensures.capacity ∙ c.loop-column.invariant.room;
    }

pub returns-clause-counts : goal.returns-clause-counts
returns-clause-counts c =
    let s = c.args.view.now in
    let span : IsSpan s.size s.span = subst (IsSpan s.size) c.span-span.ensures.value c.span-span.ensures.within in
    let end : c.span-span.result.end_column ≡ s.span.end_column = ap (λ (x : TileSpan). x.end_column) c.span-span.ensures.value in
    let some = c.span-span.ensures.within.columns in let within = c.span-span.ensures.within.columns_within in
    let last : c.loop-column.column ≤ c.span-span.result.end_column = c.loop-column.auto.column-end some in
    c.loop-column.invariant.counts ∙ sym (row_ended s c.args.row c.loop-column.column span (omega (arith, end, c.loop-column-test.false)) (omega (arith, last, within)))

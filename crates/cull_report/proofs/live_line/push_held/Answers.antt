use Rattle.std.proofs.Common.{◌≡◌, ℕ, ◌*◌, ◌<◌, ◌≤◌, vec_capacity, arith, sym, ap, ◌∙◌, subst}
use Rattle.cull_base.specs.declared.tile_span.TileSpan.{TileSpan}
use Rattle.cull_base.specs.Screen.{tile_columns_of}
use Rattle.cull_base.specs.Span.{IsSpan}
use Rattle.cull_report.specs.LivePieces.{counts_before}
use Rattle.cull_report.proofs.HeldTiles.{rows_begun, rows_ended}
use Rattle.cull_report.proofs.live_line.push_held.Goals as goal

pub loop-row-init : goal.loop-row-init
loop-row-init c =
    let s = c.args.view.now in
    let columns : c.tile_columns-columns.result ≡ tile_columns_of s.size = c.tile_columns-columns.ensures.value ∙ ap tile_columns_of c.size.ensures in
    let some : 0 < tile_columns_of s.size = omega (arith, columns, c.tile_columns-columns.ensures.some) in
    let first : c.span-span.result.first_row ≡ s.span.first_row = ap (λ (x : TileSpan). x.first_row) c.span-span.ensures.value in
    record {
      counts = c.requires.none ∙ sym (rows_begun s some) ∙ ap (λ (n : ℕ). counts_before s (n * tile_columns_of s.size)) (sym first);
      room = λ i. vec_capacity c.args.counts.now;
    }

pub returns-clause-counts : goal.returns-clause-counts
returns-clause-counts c =
    let s = c.args.view.now in
    let span : IsSpan s.size s.span = subst (IsSpan s.size) c.span-span.ensures.value c.span-span.ensures.within in
    let columns : c.tile_columns-columns.result ≡ tile_columns_of s.size = c.tile_columns-columns.ensures.value ∙ ap tile_columns_of c.size.ensures in
    let some : 0 < tile_columns_of s.size = omega (arith, columns, c.tile_columns-columns.ensures.some) in
    let end : c.span-span.result.end_row ≡ s.span.end_row = ap (λ (x : TileSpan). x.end_row) c.span-span.ensures.value in
    let last : c.loop-row.row ≤ c.span-span.result.end_row = c.loop-row.auto.row-end c.span-span.ensures.within.rows in
    let within = c.span-span.ensures.within.rows_within in
    c.loop-row.invariant.counts ∙ sym (rows_ended s c.loop-row.row span some (omega (arith, end, c.loop-row-test.false)) (omega (arith, last, within)))

use Rattle.std.proofs.Common.{◌≡◌, ℕ, ◌+◌, ◌*◌, false, arith, sym, ap, ◌∙◌}
use Rattle.cull_base.specs.Screen.{tile_columns_of, tile_rows_of}
use Rattle.live_check.specs.Moving.{is_short_at}
use Rattle.live_check.specs.Standing.{TilesOf}
use Rattle.live_check.proofs.Held.{held_all, held_more, held_row_begun, held_row_ended, held_rows_begun}
use Rattle.live_check.proofs.Stating.{on_row}
use Rattle.live_check.proofs.tiles.Tiles.short_in.Goals as goal
use Rattle.live_check.proofs.tiles.Tiles.short_in.Goals.{then-is_short, else-is_short}

pub loop-row-init : goal.loop-row-init
loop-row-init c =
    let s = c.args.self.now in
    let columns : c.tile_columns-columns.result ≡ tile_columns_of s.size = c.tile_columns-columns.ensures.value ∙ ap (λ (x : TilesOf). tile_columns_of x.size) c.self.view_is in
    record {
      none = λ _. held_rows_begun (λ t. is_short_at s t c.args.place ≡ false) s.size c.args.span.now (omega (arith, columns, c.tile_columns-columns.ensures.some));
      some = λ lt. absurd (omega (arith, lt));
      few = omega arith;
    }

pub loop-column-init : goal.loop-column-init
loop-column-init c =
    let s = c.args.self.now in let i = c.loop-row.invariant in
    record {
      none = λ zero. held_row_begun (λ t. is_short_at s t c.args.place ≡ false) s.size c.args.span.now c.loop-row.row c.requires (i.none zero);
      some = i.some;
      few = omega (arith, i.few);
    }

pub is_short-requires : goal.is_short-requires
is_short-requires c =
    let s = c.args.self.now in
    let columns : c.tile_columns-columns.result ≡ tile_columns_of s.size = c.tile_columns-columns.ensures.value ∙ ap (λ (x : TilesOf). tile_columns_of x.size) c.self.view_is in
    rw columns (on_row s.size c.args.span.now c.loop-row.row c.loop-column.column c.requires (c.loop-row.auto.row, c.loop-row-test.true) c.loop-column.auto.column c.loop-column-test.true).0

-- what holds before a short tile and one that isn't
pub loop-column-preserved : goal.loop-column-preserved
loop-column-preserved c =
    let s = c.args.self.now in let i = c.loop-column.invariant in
    let columns : c.tile_columns-columns.result ≡ tile_columns_of s.size = c.tile_columns-columns.ensures.value ∙ ap (λ (x : TilesOf). tile_columns_of x.size) c.self.view_is in
    let n = c.loop-row.row * tile_columns_of s.size + c.loop-column.column in
    let on = on_row s.size c.args.span.now c.loop-row.row c.loop-column.column c.requires (c.loop-row.auto.row, c.loop-row-test.true) c.loop-column.auto.column c.loop-column-test.true in
    let is : is_short_at s n c.args.place ≡ c.is_short.result = ap (λ (k : ℕ). is_short_at s (c.loop-row.row * k + c.loop-column.column) c.args.place) (sym columns) ∙ sym c.is_short.ensures in
    let next : n + 1 ≡ c.loop-row.row * tile_columns_of s.size + (c.loop-column.column + 1) = omega arith in
    elim c.if-is_short.branch [
      | then-is_short w ↦ record {
        none = λ none. absurd (omega (arith, none, w.short-is));
        some = λ _. (n, on, is ∙ w.if-is_short.true);
        few = omega (arith, i.few, w.short-is);
      }
      | else-is_short w ↦ record {
        none = λ none t before. held_more (λ t. is_short_at s t c.args.place ≡ false) s.size c.args.span.now n (i.none (sym w.short-is ∙ none)) (is ∙ w.if-is_short.false) t (omega (arith, next, before.0), before.1);
        some = λ some. i.some (omega (arith, some, w.short-is));
        few = omega (arith, i.few, w.short-is);
      }
    ]

pub loop-row-preserved : goal.loop-row-preserved
loop-row-preserved c =
    let s = c.args.self.now in let i = c.loop-column.invariant in
    let columns = c.requires.columns_within in let some = c.requires.columns in let small = c.tile_columns-columns.ensures.small in
    let is : c.tile_columns-columns.result ≡ tile_columns_of s.size = c.tile_columns-columns.ensures.value ∙ ap (λ (x : TilesOf). tile_columns_of x.size) c.self.view_is in
    record {
      none = λ zero. held_row_ended (λ t. is_short_at s t c.args.place ≡ false) s.size c.args.span.now c.loop-row.row c.loop-column.column (omega (arith, c.loop-column-test.false)) (i.none zero);
      some = i.some;
      few = omega (arith, i.few, c.loop-column.auto.column-end, columns, some, small, is);
    }

pub returns-clause-none : goal.returns-clause-none
returns-clause-none c zero t within =
    let s = c.args.self.now in
    let columns : c.tile_columns-columns.result ≡ tile_columns_of s.size = c.tile_columns-columns.ensures.value ∙ ap (λ (x : TilesOf). tile_columns_of x.size) c.self.view_is in
    held_all (λ t. is_short_at s t c.args.place ≡ false) s.size c.args.span.now c.loop-row.row (omega (arith, columns, c.tile_columns-columns.ensures.some)) (omega (arith, c.loop-row-test.false)) (c.loop-row.invariant.none zero) t within.1

pub returns-clause-some : goal.returns-clause-some
returns-clause-some c = c.loop-row.invariant.some

pub returns-clause-few : goal.returns-clause-few
returns-clause-few c =
    let rows = c.requires.rows in let within = c.requires.rows_within in
    omega (arith, c.loop-row.invariant.few, c.loop-row.auto.row-end, rows, within, c.tile_rows-rows.ensures.small, c.tile_rows-rows.ensures.value, ap (λ (x : TilesOf). tile_rows_of x.size) c.self.view_is)

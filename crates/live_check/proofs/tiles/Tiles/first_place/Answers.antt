use Rattle.std.proofs.Common.{◌≡◌, ℕ, ◌+◌, ◌*◌, ◌<◌, ◌≤◌, true, false, length, arith, sym, ap, ◌∙◌}
use Rattle.std.specs.Prelude.{slice_index}
use Rattle.std.proofs.lemmas.Bool.Decides.{nat_tests}
use Rattle.std.proofs.lemmas.List.{get_or_read}
use Rattle.cull_base.specs.Screen.{tile_columns_of, tile_count_of}
use Rattle.live_check.specs.Moving.{is_short_at}
use Rattle.live_check.specs.Standing.{TilesOf, count_at}
use Rattle.live_check.proofs.Held.{held_all, held_as, held_more, held_row_begun, held_row_ended, held_rows_begun}
use Rattle.live_check.proofs.Stating.{on_row}
use Rattle.live_check.proofs.tiles.Tiles.first_place.Goals as goal
use Rattle.live_check.proofs.tiles.Tiles.first_place.Goals.{then-is_short, else-is_short}

-- no short tile of the span stands before a place
abbrev IsFrom : TilesOf → ℕ → ℕ → ℕ → Type 0
IsFrom s len least t = count_at s t < slice_index s.stated t → slice_index s.behind t < len → least ≤ slice_index s.behind t

-- a tile that isn't short up to the place
from_off : (s : TilesOf) (len least t : ℕ) → is_short_at s t least ≡ false → IsFrom s len least t
from_off s len least t off = λ short before. grind (arith, nat_tests)

-- one that is
from_on : (s : TilesOf) (least t : ℕ) → is_short_at s t least ≡ true → slice_index s.behind t ≤ least
from_on s least t on = grind (arith, nat_tests)

pub loop-row-init : goal.loop-row-init
loop-row-init c =
    let s = c.args.self.now in
    let columns : c.tile_columns-columns.result ≡ tile_columns_of s.size = c.tile_columns-columns.ensures.value ∙ ap (λ (x : TilesOf). tile_columns_of x.size) c.self.view_is in
    record { most = omega arith; held = held_rows_begun (IsFrom s c.args.len c.args.len) s.size c.args.span.now (omega (arith, columns, c.tile_columns-columns.ensures.some)) }

pub loop-column-init : goal.loop-column-init
loop-column-init c =
    let s = c.args.self.now in let i = c.loop-row.invariant in
    record { most = i.most; held = held_row_begun (IsFrom s c.args.len c.loop-row.least) s.size c.args.span.now c.loop-row.row c.requires i.held }

pub is_short-requires : goal.is_short-requires
is_short-requires c =
    let s = c.args.self.now in
    let columns : c.tile_columns-columns.result ≡ tile_columns_of s.size = c.tile_columns-columns.ensures.value ∙ ap (λ (x : TilesOf). tile_columns_of x.size) c.self.view_is in
    rw columns (on_row s.size c.args.span.now c.loop-row.row c.loop-column.column c.requires (c.loop-row.auto.row, c.loop-row-test.true) c.loop-column.auto.column c.loop-column-test.true).0

-- the place becomes that of a tile, or stays
pub loop-column-preserved : goal.loop-column-preserved
loop-column-preserved c =
    let s = c.args.self.now in let i = c.loop-column.invariant in
    let columns : c.tile_columns-columns.result ≡ tile_columns_of s.size = c.tile_columns-columns.ensures.value ∙ ap (λ (x : TilesOf). tile_columns_of x.size) c.self.view_is in
    let n = c.loop-row.row * tile_columns_of s.size + c.loop-column.column in
    let is : is_short_at s n c.loop-column.least ≡ c.is_short.result = ap (λ (k : ℕ). is_short_at s (c.loop-row.row * k + c.loop-column.column) c.loop-column.least) (sym columns) ∙ sym c.is_short.ensures in
    let next : n + 1 ≡ c.loop-row.row * tile_columns_of s.size + (c.loop-column.column + 1) = omega arith in
    elim c.if-is_short.branch [
      | then-is_short w ↦
          let least = slice_index s.behind n in
          let le : least ≤ c.loop-column.least = from_on s c.loop-column.least n (is ∙ w.if-is_short.true) in
          let on = on_row s.size c.args.span.now c.loop-row.row c.loop-column.column c.requires (c.loop-row.auto.row, c.loop-row-test.true) c.loop-column.auto.column c.loop-column-test.true in
          let number : c.loop-row.row * c.tile_columns-columns.result + c.loop-column.column ≡ n = ap (λ (k : ℕ). c.loop-row.row * k + c.loop-column.column) columns in
          let few : c.loop-row.row * c.tile_columns-columns.result + c.loop-column.column < length c.self.inside.behind.items = omega (arith, number, on.0, c.self.invariant.behind, ap (λ (x : TilesOf). tile_count_of x.size) c.self.view_is) in
          let read : c.if-is_short.least ≡ least = w.least-is ∙ get_or_read c.self.inside.behind.items (c.loop-row.row * c.tile_columns-columns.result + c.loop-column.column) w.index-least.result.now few w.index-least.ensures 0 ∙ ap (λ (x : TilesOf). slice_index x.behind (c.loop-row.row * c.tile_columns-columns.result + c.loop-column.column)) c.self.view_is ∙ ap (λ (k : ℕ). slice_index s.behind (c.loop-row.row * k + c.loop-column.column)) columns in
          record {
            most = omega (arith, le, i.most, read);
            held = λ t before. held_more (IsFrom s c.args.len c.if-is_short.least) s.size c.args.span.now n
                (held_as (IsFrom s c.args.len c.loop-column.least) (IsFrom s c.args.len c.if-is_short.least) s.size c.args.span.now n (λ t from short lt. omega (arith, read, le, from short lt)) i.held)
                (λ short lt. omega (arith, read)) t (omega (arith, next, before.0), before.1);
          }
      | else-is_short w ↦ record {
        most = omega (arith, i.most, w.least-is);
        held = λ t before. held_more (IsFrom s c.args.len c.if-is_short.least) s.size c.args.span.now n
            (held_as (IsFrom s c.args.len c.loop-column.least) (IsFrom s c.args.len c.if-is_short.least) s.size c.args.span.now n (λ t from short lt. omega (arith, w.least-is, from short lt)) i.held)
            (λ short lt. omega (arith, w.least-is, from_off s c.args.len c.loop-column.least n (is ∙ w.if-is_short.false) short lt)) t (omega (arith, next, before.0), before.1);
      }
    ]

pub loop-row-preserved : goal.loop-row-preserved
loop-row-preserved c =
    let s = c.args.self.now in let i = c.loop-column.invariant in
    record { most = i.most; held = held_row_ended (IsFrom s c.args.len c.loop-column.least) s.size c.args.span.now c.loop-row.row c.loop-column.column (omega (arith, c.loop-column-test.false)) i.held }

pub returns-clause-most : goal.returns-clause-most
returns-clause-most c = c.loop-row.invariant.most

pub returns-clause-least : goal.returns-clause-least
returns-clause-least c t within =
    let s = c.args.self.now in
    let columns : c.tile_columns-columns.result ≡ tile_columns_of s.size = c.tile_columns-columns.ensures.value ∙ ap (λ (x : TilesOf). tile_columns_of x.size) c.self.view_is in
    held_all (IsFrom s c.args.len c.loop-row.least) s.size c.args.span.now c.loop-row.row (omega (arith, columns, c.tile_columns-columns.ensures.some)) (omega (arith, c.loop-row-test.false)) c.loop-row.invariant.held t within.1

use Rattle.std.proofs.Common.{◌≡◌, ℕ, ◌*◌, ◌<◌, max, arith}
use Rattle.std.specs.Int.{div_ceil}
use Rattle.cull_base.specs.Screen.{tile_columns_of}
use Rattle.cull_base.proofs.Pixels.{tile_is}
use Rattle.rect_query.proofs.Pixels.{pixel_of_tile, column_of_tile, row_of_tile}
use Rattle.rect_query.proofs.area.is_row_hiding.Goals as goal

before_end : (column end x1 : ℕ) → end ≡ div_ceil x1 32 → column < end → 32 * column < x1
before_end column end x1 e lt = omega arith

pub is_tile_hiding-requires-clause-holds : goal.is_tile_hiding-requires-clause-holds
is_tile_hiding-requires-clause-holds g c =
    let a = c.args.area.now in let column = c.loop-column.column in let row = c.args.row in
    let inside = pixel_of_tile a column row c.requires.area.wide c.requires.area.high c.loop-column.auto.column (before_end column _ a.x1 c.div_ceil-column-end.ensures c.loop-column-test.true) c.requires.first (omega (arith, c.requires.end)) in
    let held = c.requires.holds (max a.x0 (32 * column)) (max a.y0 (8 * row)) inside in
    rw (c.tile_columns.ensures.value) (rw (column_of_tile a.x0 column c.loop-column.auto.column, row_of_tile a.y0 row c.requires.first) at held)

pub returns-then-not-is_tile_hiding : goal.returns-then-not-is_tile_hiding
returns-then-not-is_tile_hiding g c = (
  (λ t. absurd cc),
  (λ all.
      let yes = c.is_tile_hiding.ensures.1 (λ px py inside column row.
      let at = tile_is px py c.args.row c.loop-column.column c.tile_columns.result (tile_columns_of c.args.size) c.tile_columns.ensures.value column row in
      rw (← at) (all px py inside row)) in
      rw c.if-not-is_tile_hiding.true at yes),
)

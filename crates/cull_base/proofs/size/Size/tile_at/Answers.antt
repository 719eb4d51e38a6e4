use Rattle.std.proofs.Common.{◌≡◌, ◌<◌, ◌≤◌, ◌/◌, ◌*◌, ℕ, arith}
use Rattle.cull_base.specs.Screen.{Dimensions, tile_rows_of, tile_columns_of, tile_count_of}
use Rattle.cull_base.proofs.size.Size.tile_at.Goals as goal
use Rattle.cull_base.proofs.Places.{row_below}

rows_small : (s : Dimensions) → s.height ≤ 2048 → tile_rows_of s ≤ 256
rows_small s le = omega arith

row_small : (t columns : ℕ) (s : Dimensions) → s.height ≤ 2048 → columns ≡ tile_columns_of s → 0 < columns → t < tile_count_of s → t / columns < 256
row_small t columns s le e some lt =
    let small = rows_small s le in
    let below : t < columns * tile_rows_of s = rw e lt in
    let row = row_below t columns (tile_rows_of s) some below in
    omega arith

pub overflow_cast-result-2 : goal.overflow_cast-result-2
overflow_cast-result-2 c =
    let high : c.args.self.now.height ≤ 2048 = rw (← c.self.view_is) c.self.invariant.within_height in
    let row = row_small c.args.tile c.tile_columns-columns.result c.args.self.now high c.tile_columns-columns.ensures.value c.tile_columns-columns.ensures.some c.requires in
    omega arith

pub returns-clause-within : goal.returns-clause-within
returns-clause-within c =
    let high : c.args.self.now.height ≤ 2048 = rw (← c.self.view_is) c.self.invariant.within_height in (
      omega (arith, c.tile_columns-columns.ensures.small, c.tile_columns-columns.ensures.some),
      row_small c.args.tile c.tile_columns-columns.result c.args.self.now high c.tile_columns-columns.ensures.value c.tile_columns-columns.ensures.some c.requires,
    )

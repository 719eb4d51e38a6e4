use Rattle.std.proofs.Common.{◌≡◌, ◌+◌, ◌*◌, ◌/◌, ◌%◌, length, arith, ap, ◌∙◌, sym}
use Rattle.masked_update.proofs.Grid.{place}
use Rattle.maskcull_c.proofs.draw.window_from.Goals as goal
use Rattle.maskcull_c.proofs.draw.window_from.Goals.{then-tiles-columns-ne0-via-then-tiles-columns-ne0, then-tiles-columns-ne0-via-else-tiles-columns-ne0+then-end_row-tile_rows}

pub returns-then-tiles-columns-ne0 : goal.returns-then-tiles-columns-ne0
returns-then-tiles-columns-ne0 c r =
    let columns = c.tile_columns-columns.result in
    let count = length c.args.tiles.now in
    let at = place r.rows columns 0 c.tile_columns-columns.ensures.some in
    let whole : count ≡ r.rows * columns + 0 = r.whole ∙ ap (λ n. r.rows * n) (sym c.tile_columns-columns.ensures.value) ∙ omega arith in
    let rows : count / columns ≡ r.rows = ap (λ n. n / columns) whole ∙ at.0 in
    let rest : count % columns ≡ 0 = ap (λ n. n % columns) whole ∙ at.1 in
    let within = r.within in
    elim c.then-tiles-columns-ne0.branch [
      | then-tiles-columns-ne0-via-then-tiles-columns-ne0 w ↦ w.if-tiles-columns-ne0.true rest
      | then-tiles-columns-ne0-via-else-tiles-columns-ne0+then-end_row-tile_rows w ↦ omega (arith, w.if-end_row-tile_rows.true, rows, within, w.tile_rows.ensures.value)
    ]

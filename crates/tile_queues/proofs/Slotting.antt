-- Slots that are filled and emptied, and the tiles of a window by their numbers.
use Rattle.std.proofs.Common.{◌≡◌, ℕ, zero, suc, ◌+◌, ◌-◌, ◌*◌, ◌/◌, ◌%◌, ◌<◌, List, arith, true, ap, ◌∙◌, subst}
use Rattle.std.specs.Prelude.{slice_index_or}
use Rattle.std.proofs.Math.Nat.{mod-lt}
use Rattle.std.proofs.lemmas.Nat.{div-add-mod'}
use Rattle.atomic_table.specs.Seated.{TableId}
use Rattle.cull_base.specs.Screen.{Dimensions, tile_columns_of, tile_rows_of, tile_place}
use Rattle.cull_base.specs.Span.{IsSpan, columns_in, has_tile, number_in, rows_in, tiles_in}
use Rattle.cull_base.specs.Tiles.{PieceList}
use Rattle.cull_base.specs.declared.tile_span.TileSpan.{TileSpan}
use Rattle.cull_base.proofs.Places.{row_below}
use Rattle.masked_update.specs.Canvas.{IsInWindow}
use Rattle.masked_update.proofs.Grid.{number_below}
use Rattle.masked_update.proofs.Tiles.{tile_with, has, number_within, one_place, place_of_number}
use Rattle.tile_cells.specs.Cells.{Writing}
use Rattle.tile_cells.specs.Standing.{StandsAt}
use Rattle.tile_queues.specs.CellBins.{tile_numbered}
use Rattle.tile_queues.proofs.Storing.{same_tile}

-- the tile at a number stands in the window, at that number
pub record IsNumbered (size : Dimensions) (window : TileSpan) (n : ℕ) : Type 0 where
  pub within : IsInWindow size window (tile_numbered size window n)
  pub number : number_in window (tile_place size (tile_numbered size window n)) ≡ n

positive : (c r n : ℕ) → n < c * r → 0 < c
positive zero r n h = absurd (omega (arith, h))
positive (suc c) r n h = omega arith

pub numbered : (size : Dimensions) (window : TileSpan) (n : ℕ) → IsSpan size window → n < tiles_in window → IsNumbered size window n
numbered size window n span lt =
    let c = columns_in window in
    let some = positive c (rows_in window) n lt in
    let row = window.first_row + n / c in
    let column = window.first_column + n % c in
    let down = row_below n c (rows_in window) some lt in
    let across = mod-lt n some in
    let below : row < tile_rows_of size = omega (arith, down, span.rows, span.rows_within) in
    let beside : column < tile_columns_of size = omega (arith, across, span.columns, span.columns_within) in
    let at = place_of_number size row column beside in
    let here : has_tile window (tile_with column row) ≡ true = has window (tile_with column row) (record {
      row_from = omega arith;
      row_before = omega (arith, down, span.rows);
      column_from = omega arith;
      column_before = omega (arith, across, span.columns);
    }) in
    let rows : row - window.first_row ≡ n / c = omega arith in
    let columns : column - window.first_column ≡ n % c = omega arith in
    record {
      within = record { on_screen = number_below row (tile_rows_of size) column (tile_columns_of size) below beside; within = ap (has_tile window) at ∙ here };
      number = ap (number_in window) at ∙ (λ i. rows i * c + columns i) ∙ div-add-mod' n c;
    }

-- writers by number are writers by tile
pub by_tile : (cells : List TableId) (list : PieceList) (window : TileSpan) (k : ℕ) (ws : List Writing) → IsSpan list.size window
    → ((n : ℕ) (d : Writing) → n < tiles_in window → StandsAt cells list k (tile_numbered list.size window n) (slice_index_or ws n d))
    → (t : ℕ) (d : Writing) → IsInWindow list.size window t → StandsAt cells list k t (slice_index_or ws (number_in window (tile_place list.size t)) d)
by_tile cells list window k ws span each t d within =
    let n = number_in window (tile_place list.size t) in
    let lt = number_within window (tile_place list.size t) within.within in
    let at = numbered list.size window n span lt in
    let same : tile_numbered list.size window n ≡ t = same_tile list.size (tile_numbered list.size window n) t
    (one_place window (tile_place list.size (tile_numbered list.size window n)) (tile_place list.size t) at.within.within within.within at.number) in
    subst (λ u. StandsAt cells list k u (slice_index_or ws n d)) same (each n d lt)

use Rattle.std.proofs.Common.{map, ◌≤◌, vec_capacity}
use Rattle.tile_cells.specs.Passes.{AreOpened}
use Rattle.tile_cells.proofs.make.open_all.Given as goal

abbrev pub invariant-loop-tile : goal.invariant-loop-tile
invariant-loop-tile l =
    record {
      opened : AreOpened l.list.list l.tile (map (λ c. c.table.shared.table_id) l.cells.items) l.passes.items;
      room_of_cells : l.tiles ≤ vec_capacity l.cells;
      room_of_passes : l.tiles ≤ vec_capacity l.passes;
    }

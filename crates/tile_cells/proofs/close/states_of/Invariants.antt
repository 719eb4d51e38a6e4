use Rattle.std.proofs.Common.{◌≡◌, ◌≤◌, length, vec_len, vec_capacity}
use Rattle.tile_cells.specs.Passes.{AreChecked}
use Rattle.tile_cells.proofs.close.states_of.Given as goal

abbrev pub invariant-loop-tile : goal.invariant-loop-tile
invariant-loop-tile l =
    record {
      made : vec_len l.room ≡ l.tile;
      room : length l.writers ≤ vec_capacity l.room;
      states : AreChecked l.tile l.writers l.room.items;
    }

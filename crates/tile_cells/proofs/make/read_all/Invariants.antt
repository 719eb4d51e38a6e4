use Rattle.std.proofs.Common.{◌≡◌, ◌≤◌, length, vec_capacity}
use Rattle.tile_cells.proofs.Making.{AreNewTo}
use Rattle.tile_cells.proofs.make.read_all.Given as goal

abbrev pub invariant-loop-tile : goal.invariant-loop-tile
invariant-loop-tile l =
    record {
      same : l.writers ≡ l.initial.writers;
      new : AreNewTo l.cells l.list.list l.tile l.passes.items;
      room : length l.initial.writers ≤ vec_capacity l.passes;
    }

use Rattle.std.proofs.Common.{◌≡◌, ◌≤◌, length, All, vec_capacity}
use Rattle.tile_cells.specs.Cells.{IsNew}
use Rattle.tile_cells.proofs.make.read_many.Given as goal

abbrev pub invariant-loop : goal.invariant-loop
invariant-loop l =
    record {
      same : l.writers ≡ l.initial.writers;
      made : length l.made.items ≡ l.counter;
      new : All (IsNew l.cells l.list.list) l.made.items;
      room : l.readers ≤ vec_capacity l.made;
    }

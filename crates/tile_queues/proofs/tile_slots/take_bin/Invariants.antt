use Rattle.std.proofs.Common.{◌≡◌, ℕ, ◌<◌, ◌≤◌, length, get_or, vec_capacity}
use Rattle.tile_cells.specs.Cells.{Writing}
use Rattle.tile_cells.specs.Standing.{StandsAt}
use Rattle.tile_queues.specs.CellBins.{tile_numbered}
use Rattle.tile_queues.specs.Owners.{AreLeft}
use Rattle.tile_queues.proofs.tile_slots.take_bin.Given as goal

abbrev pub invariant-loop-number : goal.invariant-loop-number
invariant-loop-number l =
    record {
      whole : length l.slots ≡ length l.initial.slots;
      left : AreLeft l.intake.of.frame l.intake.of.bin l.number l.slots;
      made : length l.writers.items ≡ l.number;
      each : (n : ℕ) (d : Writing) → n < l.number → StandsAt l.intake.of.frame.cells l.intake.of.frame.list 0 (tile_numbered l.intake.of.frame.list.size l.window n) (get_or l.writers.items n d);
      room : l.count ≤ vec_capacity l.writers;
    }

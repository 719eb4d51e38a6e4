use Rattle.std.proofs.Common.{◌≡◌, ℕ, ◌<◌, ◌≤◌, None, Some, length, get_or, vec_capacity}
use Rattle.tile_cells.specs.Cells.{Writing}
use Rattle.tile_queues.proofs.tile_slots.empty_slots.Given as goal

abbrev pub invariant-loop-tile : goal.invariant-loop-tile
invariant-loop-tile l =
    record {
      whole : length l.slots ≡ length l.initial.slots;
      left : (t : ℕ) → l.tile ≤ t → get_or l.slots t None ≡ get_or l.initial.slots t None;
      made : length l.room.items ≡ l.tile;
      each : (t : ℕ) (d : Writing) → t < l.tile → get_or l.initial.slots t None ≡ Some (get_or l.room.items t d);
      room : length l.initial.slots ≤ vec_capacity l.room;
    }

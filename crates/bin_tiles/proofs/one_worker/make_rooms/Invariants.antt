use Rattle.std.proofs.Common.{◌≡◌, ℕ, ◌<◌, ◌≤◌, length, get_or, vec_capacity}
use Rattle.binning.specs.Bins.{bin_rect_of}
use Rattle.binning.specs.Rooms.{RoomOf}
use Rattle.bin_tiles.proofs.one_worker.make_rooms.Given as goal

abbrev pub invariant-loop-bin : goal.invariant-loop-bin
invariant-loop-bin l =
    record {
      made : length l.rooms.items ≡ l.bin;
      each : (i : ℕ) (r : RoomOf) → i < l.bin → (get_or l.rooms.items i r).rect ≡ bin_rect_of l.list.list.size l.cut i;
      room : l.count ≤ vec_capacity l.rooms;
    }

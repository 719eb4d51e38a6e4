use Rattle.std.proofs.Common.{◌≡◌, ◌*◌, ◌≤◌, length, vec_capacity}
use Rattle.std.specs.List.{All}
use Rattle.snap_setup.specs.Runs.{IsFirstFor, IsRoom}
use Rattle.snap_setup.proofs.runs.rooms_for.Given as goal

abbrev pub invariant-loop : goal.invariant-loop
invariant-loop l =
    record {
      made : length l.rooms.items ≡ l.counter;
      empty : All (IsRoom l.size (2 * l.share)) l.rooms.items;
      first : IsFirstFor l.size (2 * l.whole) l.rooms.items;
      room : l.runs ≤ vec_capacity l.rooms;
    }

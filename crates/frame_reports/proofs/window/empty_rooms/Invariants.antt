use Rattle.std.proofs.Common.{◌≡◌, ◌≤◌, length, vec_capacity}
use Rattle.frame_reports.specs.Windows.{HavePlaces}
use Rattle.frame_reports.proofs.window.empty_rooms.Given as goal

abbrev pub invariant-loop : goal.invariant-loop
invariant-loop l = record {
  made : length l.rooms.items ≡ l.counter;
  places : HavePlaces l.scene l.rooms.items;
  room : l.count ≤ vec_capacity l.rooms;
}

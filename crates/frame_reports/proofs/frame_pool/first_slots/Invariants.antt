use Rattle.std.proofs.Common.{◌≡◌, ◌≤◌, length, vec_capacity}
use Rattle.seats.proofs.First.{AreFirst}
use Rattle.frame_reports.specs.Windows.{IsSlotOf}
use Rattle.frame_reports.proofs.frame_pool.first_slots.Given as goal

abbrev pub invariant-loop-number : goal.invariant-loop-number
invariant-loop-number g l = record {
  count : length l.slots.items ≡ l.number;
  first : AreFirst (IsSlotOf l.window.drawing.now.scene.now l.window.drawing.now.groups.now l.window.first) l.slots.items;
  room : l.count ≤ vec_capacity l.slots;
}

use Rattle.std.proofs.Common.{◌≡◌, ◌≤◌, length, vec_capacity}
use Rattle.seats.proofs.First.{AreFirst}
use Rattle.sharing_tests.proofs.tests.waiting_tasks.tallies.Given as goal

abbrev pub invariant-loop-seat : goal.invariant-loop-seat
invariant-loop-seat l = record {
  count : length l.slots.items ≡ l.seat;
  first : AreFirst (λ seat t. t.seat ≡ seat) l.slots.items;
  room : 24 ≤ vec_capacity l.slots;
}

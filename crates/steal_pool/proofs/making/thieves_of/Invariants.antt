use Rattle.std.proofs.Common.{◌≡◌, ◌≤◌, length, vec_capacity}
use Rattle.crossbeam_deque.specs.Handles.{stealer_deque}
use Rattle.steal_pool.specs.Making.{AreAtTo}
use Rattle.steal_pool.proofs.making.thieves_of.Given as goal

abbrev pub invariant-loop-w : goal.invariant-loop-w
invariant-loop-w l = record {
  made : length l.thieves.items ≡ l.w;
  at : AreAtTo stealer_deque l.w l.thieves.items l.seats;
  room : length l.seats ≤ vec_capacity l.thieves;
}

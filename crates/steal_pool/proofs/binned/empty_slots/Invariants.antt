use Rattle.std.proofs.Common.{◌≡◌, ◌≤◌, length, vec_capacity}
use Rattle.steal_pool.proofs.binned.empty_slots.Given as goal

abbrev pub invariant-loop : goal.invariant-loop
invariant-loop l = record {
  made : length l.slots.items ≡ l.counter;
  room : l.batches ≤ vec_capacity l.slots;
}

use Rattle.std.proofs.Common.{◌≡◌, ◌≤◌, All, length, vec_capacity}
use Rattle.steal_pool.specs.Making.{IsEmptySeat}
use Rattle.steal_pool.specs.Pools.{call_of}
use Rattle.steal_pool.proofs.making.empty_seats.Given as goal

abbrev pub invariant-loop : goal.invariant-loop
invariant-loop g l = record {
  made : length l.seats.items ≡ l.counter;
  empty : All (IsEmptySeat (call_of l.pool) l.workers) l.seats.items;
  room : l.workers ≤ vec_capacity l.seats;
}

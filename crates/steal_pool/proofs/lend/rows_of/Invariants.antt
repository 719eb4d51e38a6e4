use Rattle.std.proofs.Common.{◌≡◌, ◌≤◌, length, vec_items, vec_capacity}
use Rattle.steal_pool.specs.Making.{AreRoomy}
use Rattle.steal_pool.proofs.lend.rows_of.Given as goal

abbrev pub invariant-loop : goal.invariant-loop
invariant-loop l = record {
  made : length l.rows.items ≡ l.counter;
  roomy : AreRoomy vec_items vec_capacity l.workers l.rows.items;
  room : l.workers ≤ vec_capacity l.rows;
}

use Rattle.std.proofs.Common.{◌≡◌, ◌≤◌, length, vec_capacity}
use Rattle.seats.specs.Things.{IsThing}
use Rattle.seats.proofs.First.{AreFirst}
use Rattle.seats.proofs.pool.first_things.Given as goal

abbrev pub invariant-loop-number : goal.invariant-loop-number
invariant-loop-number g l = record {
  count : length l.slots.items ≡ l.number;
  first : AreFirst (IsThing (g.M.Makes.waits l.maker) (g.M.Makes.made l.maker)) l.slots.items;
  room : l.count ≤ vec_capacity l.slots;
}

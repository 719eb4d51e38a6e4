use Rattle.std.proofs.Common.{◌≡◌, ◌≤◌, ◌∷◌, [], All, List, length, arith, rules, ap, sym, subst, vec_capacity}
use Rattle.std.proofs.lemmas.Grind.{common_steps}
use Rattle.std.proofs.lemmas.List.{length-append}
use Rattle.std.proofs.lemmas.List.Elements.{All-nil, All-push}
use Rattle.steal_pool.specs.declared.seat.Seat.{Seat}
use Rattle.steal_pool.specs.Making.{IsEmptySeat}
use Rattle.steal_pool.specs.Pools.{call_of}
use Rattle.steal_pool.proofs.making.empty_seats.Goals as goal

pub loop-init : goal.loop-init
loop-init g c =
    let seats = c.in_ok-seats.seats in
    let none : seats.items ≡ [] = first_of (search rules, grind (arith, common_steps)) in
    let room : c.args.workers ≤ vec_capacity seats = first_of (search rules, grind (arith, common_steps)) in
    record {
      made = ap length none;
      empty = subst (λ (ss : List Seat). All (IsEmptySeat (call_of c.args.pool.now) c.args.workers) ss) (sym none) (All-nil (IsEmptySeat (call_of c.args.pool.now) c.args.workers));
      room = room;
    }

pub loop-preserved : goal.loop-preserved
loop-preserved g c =
    let old = c.loop.invariant in
    let items = c.push_reserved.ensures.items in
    let seat = c.in_ok-seat.seat in
    record {
      made = (let n = ap length items in omega (arith, n, length-append c.loop.seats.items (seat ∷ []), old.made));
      empty = subst (λ (ss : List Seat). All (IsEmptySeat (call_of c.args.pool.now) c.args.workers) ss) (sym items) (All-push (IsEmptySeat (call_of c.args.pool.now) c.args.workers) c.loop.seats.items seat old.empty c.in_ok-seat.ensures);
      room = omega (arith, old.room, c.push_reserved.ensures.capacity);
    }

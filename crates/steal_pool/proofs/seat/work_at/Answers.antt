use Rattle.std.proofs.Common.{◌≡◌, All, List, ap, arith, rules, sym, subst, vec_len, vec_capacity}
use Rattle.std.proofs.lemmas.List.Elements.{All-nil}
use Rattle.crossbeam_deque.specs.Handles.{stealer_deque, worker_flavor, worker_view}
use Rattle.bin_queues.specs.Tasks.{Tasking}
use Rattle.steal_pool.specs.declared.deque_rule.Role.TheVariants.{Owns}
use Rattle.steal_pool.specs.declared.deque_rule.View.{View}
use Rattle.steal_pool.specs.declared.seat.Seat.{Seat}
use Rattle.steal_pool.specs.Pools.{call_of, IsWholeIn}
use Rattle.steal_pool.proofs.Drawing.{of_drew}
use Rattle.steal_pool.proofs.Seating.{round_room, worked}
use Rattle.steal_pool.proofs.seat.work_at.Goals as goal

pub pop_all-requires-clause-owns : goal.pop_all-requires-clause-owns
pop_all-requires-clause-owns g c =
    let owns : ((worker_view c.args.seat.now.owner).role ≡ Owns) × (worker_flavor c.args.seat.now.owner ≡ 0) = (ap (λ (v : View). v.role) c.requires.owns, c.requires.fifo) in
    search (rules, owns)

pub pop_all-requires-clause-room : goal.pop_all-requires-clause-room
pop_all-requires-clause-room g c = omega (arith, c.requires.room, c.requires.none)

pub pop_all-requires-clause-whole : goal.pop_all-requires-clause-whole
pop_all-requires-clause-whole g c =
    let call = call_of c.args.pool.now in
    let whole = subst (λ (ts : List Tasking). All (IsWholeIn call) ts) (sym c.requires.empty) (All-nil (IsWholeIn call)) in
    search (rules, whole)

pub pop_all-requires-clause-of : goal.pop_all-requires-clause-of
pop_all-requires-clause-of g c =
    let here = ap (λ (v : View). v.of) c.requires.owns in
    search (rules, here)

pub steal_round-requires-clause-room : goal.steal_round-requires-clause-room
steal_round-requires-clause-room g c =
    let call = call_of c.args.pool.now in
    let s = c.args.seat.now in
    let pop = c.pop_all.ensures in
    let room = round_room stealer_deque call c.args.thieves.now s (worker_view c.pop_all.new.owner) (vec_len c.pop_all.new.list) (vec_capacity c.pop_all.new.list) c.requires
    (of_drew call _ _ (worker_view s.owner) _ (ap (λ (v : View). v.of) c.requires.owns) pop.drew) pop.every.0 pop.len pop.capacity in
    omega (arith, room)

pub returns : goal.returns
returns g c =
    let pop = c.pop_all.ensures in
    let round = c.steal_round.ensures in
    let t : Seat = record { owner = c.pop_all.new.owner; passes = c.steal_round.new.passes; list = c.steal_round.new.list } in
    worked stealer_deque (call_of c.args.pool.now) c.args.thieves.now c.args.seat.now t c.pop_all.new.list.items (vec_len c.pop_all.new.list) (vec_capacity c.pop_all.new.list) c.requires
    pop.same pop.drew pop.len pop.capacity round.passes round.weighs round.whole round.len round.capacity

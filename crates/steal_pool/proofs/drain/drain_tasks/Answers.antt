use Rattle.std.proofs.Common.{◌≡◌, All, List, length, vec_items, vec_capacity, arith, rules, ap, sym, ◌∙◌, subst}
use Rattle.std.proofs.lemmas.Grind.{common_steps}
use Rattle.std.proofs.lemmas.List.{with_items_is}
use Rattle.steal_pool.specs.declared.seat.Seat.{Seat}
use Rattle.steal_pool.specs.Finish.{AreFinishedTo, lists_weigh}
use Rattle.steal_pool.specs.Lists.{joined}
use Rattle.steal_pool.specs.Making.{HaveRoom, IsEmptySeat}
use Rattle.steal_pool.specs.Pools.{call_of}
use Rattle.steal_pool.proofs.Joining.{all_told, are_whole, joined_weigh, joined_whole}
use Rattle.steal_pool.proofs.drain.drain_tasks.Goals as goal

pub run-requires-clause-some : goal.run-requires-clause-some
run-requires-clause-some g c =
    let n : length c.as_mut_slice.result.now ≡ c.args.workers = ap length c.as_mut_slice.ensures.value ∙ c.in_ok-seats.ensures.count in
    omega (arith, n, c.requires.some)

pub run-requires-clause-empty : goal.run-requires-clause-empty
run-requires-clause-empty g c =
    let call = call_of c.args.pool.now in
    let seats = c.in_ok-seats.seats.items in
    let here = subst (λ (ss : List Seat). All (IsEmptySeat call (length ss)) ss) (sym c.as_mut_slice.ensures.value) (subst (λ n. All (IsEmptySeat call n) seats) (sym c.in_ok-seats.ensures.count) c.in_ok-seats.ensures.empty) in
    search (rules, here)

pub run-requires-clause-told : goal.run-requires-clause-told
run-requires-clause-told g c =
    let here = all_told (call_of c.args.pool.now) c.args.tasks.now.items c.requires.tasks in
    search (rules, here)

pub run-requires-clause-room : goal.run-requires-clause-room
run-requires-clause-room g c =
    let here = subst (λ n. HaveRoom n c.args.pool.now.room c.args.tasks.now.items) (sym (ap length c.as_mut_slice.ensures.value ∙ c.in_ok-seats.ensures.count)) c.requires.room in
    search (rules, here)

pub lists_of-requires-clause-finished : goal.lists_of-requires-clause-finished
lists_of-requires-clause-finished g c =
    let new = c.run.new.seats in
    let same : length new ≡ c.in_ok-seats.seats.len = search rules in
    let is = with_items_is c.in_ok-seats.seats new same in
    subst (λ (ss : List Seat). AreFinishedTo (call_of c.args.pool.now) (length ss) ss) (sym is) c.in_ok-run.ensures.finished

pub lists_of-requires-clause-room : goal.lists_of-requires-clause-room
lists_of-requires-clause-room g c =
    let new = c.run.new.seats in
    let same : length new ≡ c.in_ok-seats.seats.len = search rules in
    let is = with_items_is c.in_ok-seats.seats new same in
    let n = ap length is ∙ c.in_ok-run.ensures.many ∙ ap length c.as_mut_slice.ensures.value ∙ c.in_ok-seats.ensures.count in
    let room : vec_capacity c.in_ok-room.room ≡ c.args.workers = first_of (search rules, grind (arith, common_steps)) in
    omega (arith, n, room)

pub returns-clause-count : goal.returns-clause-count
returns-clause-count g c =
    let new = c.run.new.seats in
    let same : length new ≡ c.in_ok-seats.seats.len = search rules in
    let is = with_items_is c.in_ok-seats.seats new same in
    c.lists_of.ensures.count ∙ ap length is ∙ c.in_ok-run.ensures.many ∙ ap length c.as_mut_slice.ensures.value ∙ c.in_ok-seats.ensures.count

pub returns-clause-whole : goal.returns-clause-whole
returns-clause-whole g c =
    let call = call_of c.args.pool.now in
    let new = c.run.new.seats in
    let same : length new ≡ c.in_ok-seats.seats.len = search rules in
    let is = with_items_is c.in_ok-seats.seats new same in
    let lists = c.lists_of.result.items in
    are_whole call c.args.tasks.now.items (joined vec_items lists) c.requires.tasks.tasks_are
    (λ k. joined_weigh vec_items k lists ∙ c.lists_of.ensures.once k ∙ ap (lists_weigh k) is ∙ c.in_ok-run.ensures.once k)
    (joined_whole vec_items call lists c.lists_of.ensures.whole)

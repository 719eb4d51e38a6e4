use Rattle.std.proofs.Common.{◌≡◌, All, List, length, vec_items, vec_len, vec_capacity, arith, rules, ap, sym, ◌∙◌, subst}
use Rattle.std.proofs.lemmas.Grind.{common_steps}
use Rattle.std.proofs.lemmas.List.{with_items_is}
use Rattle.bin_queues.specs.Tasks.{Tasking}
use Rattle.tile_queues.specs.Shares.{AreWhole}
use Rattle.steal_pool.specs.declared.seat.Seat.{Seat}
use Rattle.steal_pool.specs.Finish.{AreFinishedTo, lists_weigh}
use Rattle.steal_pool.specs.Lists.{joined}
use Rattle.steal_pool.specs.Making.{HaveRoom, IsEmptySeat}
use Rattle.steal_pool.specs.Pools.{call_of, frame_of}
use Rattle.steal_pool.proofs.Joining.{all_told, are_whole, joined_weigh, joined_whole}
use Rattle.steal_pool.proofs.frame.draw_tasks.Goals as goal

pub run_beside-requires-clause-some : goal.run_beside-requires-clause-some
run_beside-requires-clause-some g c =
    let n : length c.as_mut_slice.result.now ≡ c.args.workers = ap length c.as_mut_slice.ensures.value ∙ c.in_ok-seats.ensures.count in
    omega (arith, n, c.requires.some)

pub run_beside-requires-clause-empty : goal.run_beside-requires-clause-empty
run_beside-requires-clause-empty g c =
    let call = call_of c.args.pool.now in
    let seats = c.in_ok-seats.seats.items in
    let here = subst (λ (ss : List Seat). All (IsEmptySeat call (length ss)) ss) (sym c.as_mut_slice.ensures.value) (subst (λ n. All (IsEmptySeat call n) seats) (sym c.in_ok-seats.ensures.count) c.in_ok-seats.ensures.empty) in
    search (rules, here)

pub run_beside-requires-clause-told : goal.run_beside-requires-clause-told
run_beside-requires-clause-told g c =
    let here = all_told (call_of c.args.pool.now) c.args.tasks.now.items c.requires.tasks in
    search (rules, here)

pub run_beside-requires-clause-room : goal.run_beside-requires-clause-room
run_beside-requires-clause-room g c =
    let here = subst (λ n. HaveRoom n c.args.pool.now.room c.args.tasks.now.items) (sym (ap length c.as_mut_slice.ensures.value ∙ c.in_ok-seats.ensures.count)) c.requires.room in
    search (rules, here)

pub lists_of-requires-clause-finished : goal.lists_of-requires-clause-finished
lists_of-requires-clause-finished g c =
    let new = c.run_beside.new.seats in
    let same : length new ≡ c.in_ok-seats.seats.len = search rules in
    let is = with_items_is c.in_ok-seats.seats new same in
    subst (λ (ss : List Seat). AreFinishedTo (call_of c.args.pool.now) (length ss) ss) (sym is) c.in_ok-run_beside.ensures.finished

pub lists_of-requires-clause-room : goal.lists_of-requires-clause-room
lists_of-requires-clause-room g c =
    let new = c.run_beside.new.seats in
    let same : length new ≡ c.in_ok-seats.seats.len = search rules in
    let is = with_items_is c.in_ok-seats.seats new same in
    let n = ap length is ∙ c.in_ok-run_beside.ensures.many ∙ ap length c.as_mut_slice.ensures.value ∙ c.in_ok-seats.ensures.count in
    let room : vec_capacity c.in_ok-room.room ≡ c.args.workers = first_of (search rules, grind (arith, common_steps)) in
    omega (arith, n, room)

pub join_lists-requires-clause-room : goal.join_lists-requires-clause-room
join_lists-requires-clause-room g c =
    let call = call_of c.args.pool.now in
    let new = c.run_beside.new.seats in
    let same : length new ≡ c.in_ok-seats.seats.len = search rules in
    let is = with_items_is c.in_ok-seats.seats new same in
    let lists = c.lists_of.result.items in
    let whole = are_whole call c.args.tasks.now.items (joined vec_items lists) c.requires.tasks.tasks_are
    (λ k. joined_weigh vec_items k lists ∙ c.lists_of.ensures.once k ∙ ap (lists_weigh k) is ∙ c.in_ok-run_beside.ensures.once k)
    (joined_whole vec_items call lists c.lists_of.ensures.whole) in
    let n = whole.tasks_are.count in
    let m = c.requires.tasks.tasks_are.count in
    let room : vec_capacity c.in_ok-all.all ≡ vec_len c.args.tasks.now = first_of (search rules, grind (arith, common_steps)) in
    omega (arith, n, m, room, c.args.tasks.now.ok.0)

pub returns-clause-whole : goal.returns-clause-whole
returns-clause-whole g c =
    let call = call_of c.args.pool.now in
    let new = c.run_beside.new.seats in
    let same : length new ≡ c.in_ok-seats.seats.len = search rules in
    let is = with_items_is c.in_ok-seats.seats new same in
    let lists = c.lists_of.result.items in
    subst (λ (ts : List Tasking). AreWhole c.args.pool.now.queues.now (frame_of c.args.pool.now) ts) (sym c.join_lists.ensures)
    (are_whole call c.args.tasks.now.items (joined vec_items lists) c.requires.tasks.tasks_are
    (λ k. joined_weigh vec_items k lists ∙ c.lists_of.ensures.once k ∙ ap (lists_weigh k) is ∙ c.in_ok-run_beside.ensures.once k)
    (joined_whole vec_items call lists c.lists_of.ensures.whole))

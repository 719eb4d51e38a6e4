use Rattle.std.proofs.Common.{◌≡◌, ℕ, ◌∙◌, arith, rules}
use Rattle.crossbeam_deque.specs.Handles.{stealer_deque}
use Rattle.steal_pool.specs.Finish.{lists_weigh}
use Rattle.steal_pool.specs.Gather.{owners_weigh}
use Rattle.steal_pool.specs.Pools.{call_of}
use Rattle.steal_pool.proofs.Whole.{are_left, worked_lists, lists_on, pushed_on}
use Rattle.steal_pool.proofs.several.drain_seats.Goals as goal

pub finish_all-requires-clause-left : goal.finish_all-requires-clause-left
finish_all-requires-clause-left g c =
    let here = are_left stealer_deque (call_of c.args.pool.now) c.args.thieves.now c.args.seats.now c.work_all.new.seats c.work_all.ensures c.take_all.new.seats c.take_all.ensures.many c.take_all.ensures.kept c.take_all.ensures.out c.requires.many in
    search (rules, here)

pub finish_all-requires-clause-lists : goal.finish_all-requires-clause-lists
finish_all-requires-clause-lists g c =
    let lists : (k : ℕ → ℕ) → lists_weigh k c.take_all.new.seats ≡ owners_weigh k c.take_all.new.seats = (λ k.
    let a = worked_lists stealer_deque (call_of c.args.pool.now) c.args.thieves.now c.args.seats.now c.work_all.new.seats c.work_all.ensures k in
    let b = lists_on k c.work_all.new.seats c.take_all.new.seats c.take_all.ensures.many c.take_all.ensures.kept in
    let d = c.take_all.ensures.weighs k in omega arith) in
    search (rules, lists)

pub returns-clause-once : goal.returns-clause-once
returns-clause-once g c = λ k.
    c.finish_all.ensures.once k ∙ pushed_on stealer_deque (call_of c.args.pool.now) c.args.thieves.now c.args.seats.now c.work_all.new.seats c.work_all.ensures c.take_all.new.seats k c.take_all.ensures.many c.take_all.ensures.kept

use Rattle.std.proofs.Common.{arith, refl, vec_len, vec_capacity, rules}
use Rattle.crossbeam_deque.specs.Handles.{worker_view}
use Rattle.steal_pool.specs.Pools.{call_of}
use Rattle.steal_pool.proofs.Drawing.{drew_more, drew_none, of_next, room_next, taken_more, told_next, whole_more}
use Rattle.steal_pool.proofs.worker.pop_all.Goals as goal

pub loop-init : goal.loop-init
loop-init g c = ((refl, refl, refl, omega arith), drew_none c.args.list.now.items (worker_view c.args.owner.now), c.requires.whole, omega arith, omega arith, c.requires.of)

pub draw_into-requires-clause-told : goal.draw_into-requires-clause-told
draw_into-requires-clause-told g c =
    let here = told_next (call_of c.args.pool.now) (worker_view c.loop.owner) _ _ c.loop.invariant.5 c.in-Some-pop.ensures.took in
    search (rules, here)

pub draw_into-requires-clause-room : goal.draw_into-requires-clause-room
draw_into-requires-clause-room g c =
    let inv = c.loop.invariant in
    let room = room_next (call_of c.args.pool.now) (worker_view c.args.owner.now) (worker_view c.loop.owner) _ _ (vec_len c.loop.list) (vec_capacity c.loop.list) (vec_len c.args.list.now) (vec_capacity c.args.list.now) inv.5 c.in-Some-pop.ensures.took c.requires.room inv.4 inv.3 in
    omega (arith, room)

pub loop-preserved : goal.loop-preserved
loop-preserved g c =
    let inv = c.loop.invariant in
    let call = call_of c.args.pool.now in
    let took = c.in-Some-pop.ensures.took in
    let joined = c.draw_into.ensures.joined in (
      grind arith,
      drew_more call _ _ _ _ _ _ _ inv.1 took joined,
      whole_more call _ _ _ joined inv.2,
      grind arith,
      (let more = taken_more _ _ _ took in let len = c.draw_into.ensures.len in let count = inv.4 in omega (arith, more, len, count)),
      of_next call (worker_view c.loop.owner) _ _ inv.5 took,
    )

use Rattle.std.proofs.Common.{◌+◌, ◌*◌, ◌≤◌, ◌<◌, length, ap, arith, refl, rules, subst, vec_len, vec_capacity}
use Rattle.crossbeam_deque.specs.Handles.{view, stealer_deque}
use Rattle.steal_pool.specs.Pools.{call_of}
use Rattle.steal_pool.proofs.Seating.{pass_at, pass_room, passes_of_set, passes_set, room_kept, stealing_at, steals_on}
use Rattle.steal_pool.proofs.seat.steal_round.Goals as goal

pub loop-init : goal.loop-init
loop-init g c = (c.requires.passes, (λ k. refl), grind arith, c.requires.whole, grind arith)

pub next_place-next-requires : goal.next_place-next-requires
next_place-next-requires g c = omega (arith, c.loop-test.true)

pub steal_all-requires-clause-own : goal.steal_all-requires-clause-own
steal_all-requires-clause-own g c =
    let inv = c.loop.invariant in
    let d = c.next_place-next.result in
    let lt : d < length c.loop.passes.items = let m = inv.0.many in let t = c.next_place-next.ensures in omega (arith, m, t) in
    let own = pass_at stealer_deque (call_of c.args.pool.now) c.args.thieves.now c.loop.passes.items d c.index-thieves-next.result c.index_mut.result.now inv.0 lt c.index-thieves-next.is c.index_mut.ensures.value in
    search (rules, own)

pub steal_all-requires-clause-steals : goal.steal_all-requires-clause-steals
steal_all-requires-clause-steals g c = let here = (stealing_at stealer_deque (call_of c.args.pool.now) c.args.thieves.now c.loop.passes.items c.next_place-next.result c.index_mut.result.now c.loop.invariant.0 c.next_place-next.ensures c.index_mut.ensures.value).0 in search (rules, here)

pub steal_all-requires-clause-of : goal.steal_all-requires-clause-of
steal_all-requires-clause-of g c = let here = (stealing_at stealer_deque (call_of c.args.pool.now) c.args.thieves.now c.loop.passes.items c.next_place-next.result c.index_mut.result.now c.loop.invariant.0 c.next_place-next.ensures c.index_mut.ensures.value).1 in search (rules, here)

pub steal_all-requires-clause-room : goal.steal_all-requires-clause-room
steal_all-requires-clause-room g c =
    let inv = c.loop.invariant in
    let room = pass_room (length c.args.thieves.now) c.args.pool.now.room c.loop.counter (vec_len c.loop.list) (vec_len c.args.list.now) (vec_capacity c.args.list.now) (vec_capacity c.loop.list) (length (view c.index_mut.result.now).taken) c.loop-test.true inv.2 c.requires.room inv.4 in
    omega (arith, room)

pub loop-preserved : goal.loop-preserved
loop-preserved g c =
    let inv = c.loop.invariant in
    let call = call_of c.args.pool.now in
    let d = c.next_place-next.result in
    let p = c.index_mut.result.now in
    let q = c.steal_all.new.pass in
    let ps = c.loop.passes.items in
    let in_ds : d < length c.args.thieves.now = c.next_place-next.ensures in
    let lt : d < length ps = let m = inv.0.many in omega (arith, m, in_ds) in
    let was = inv.0.steals d p lt in
    let drew = c.steal_all.ensures.drew in (
      passes_of_set stealer_deque call c.args.thieves.now ps d c.index-thieves-next.result q inv.0 in_ds c.index-thieves-next.is c.steal_all.ensures.own
          (steals_on _ (view p) _ (view q) (ap view c.index_mut.ensures.value) was drew.view),
      (λ k.
          let s = passes_set k ps d p q lt c.index_mut.ensures.value in
          let w = drew.weighs k in
          let h = inv.1 k in omega arith),
      room_kept c.loop.counter c.args.pool.now.room (vec_len c.loop.list) (vec_len c.steal_all.new.list) (vec_len c.args.list.now) (length (view p).taken) (length (view q).taken) inv.2 c.steal_all.ensures.len c.steal_all.ensures.short,
      c.steal_all.ensures.whole,
      grind arith,
    )

pub returns-clause-len : goal.returns-clause-len
returns-clause-len g c =
    subst (λ n. vec_len c.loop.list ≤ vec_len c.args.list.now + n * c.args.pool.now.room) (omega (arith, c.loop-test.false, c.loop.auto.counter-end)) c.loop.invariant.2

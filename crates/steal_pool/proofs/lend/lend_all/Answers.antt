use Rattle.std.proofs.Common.{◌<◌, length, get_or, arith, refl, ap, sym, subst}
use Rattle.crossbeam_deque.specs.Handles.{stealer_deque}
use Rattle.steal_pool.specs.declared.seat.Seat.{Seat}
use Rattle.steal_pool.specs.Pools.{call_of}
use Rattle.steal_pool.specs.Seats.{ArePassesOf, AreFresh}
use Rattle.steal_pool.proofs.Lending.{at_on, lent_next, lent_to, all_open, none_lent, no_rows, rows_next, seats_on_none, seats_on_next}
use Rattle.steal_pool.proofs.lend.lend_all.Goals as goal

pub loop-w-init : goal.loop-w-init
loop-w-init g c =
    (seats_on_none c.args.seats.now, none_lent (call_of c.args.pool.now) (length c.args.seats.now) c.args.seats.now c.requires.dealt, no_rows stealer_deque (call_of c.args.pool.now) c.args.thieves.now c.args.seats.now, omega (arith, c.requires.rows), c.requires.room)

pub lend_row-row-requires-clause-deques : goal.lend_row-row-requires-clause-deques
lend_row-row-requires-clause-deques g c = at_on stealer_deque c.args.thieves.now c.args.seats.now c.loop-w.seats c.loop-w.invariant.0 c.requires.deques

pub lend_row-row-requires-clause-lent : goal.lend_row-row-requires-clause-lent
lend_row-row-requires-clause-lent g c = lent_to (call_of c.args.pool.now) _ (length c.args.seats.now) 0 c.loop-w.w c.loop-w.seats c.loop-w.invariant.0.many c.loop-w.invariant.1

pub loop-w-preserved : goal.loop-w-preserved
loop-w-preserved g c =
    let inv = c.loop-w.invariant in
    let call = call_of c.args.pool.now in
    let was = c.args.seats.now in
    let ss = c.loop-w.seats in
    let ss' = c.lend_row-row.new.seats in
    let w = c.loop-w.w in
    let row = c.lend_row-row.ensures in
    let r = c.index-seats-w.result in
    let p = get_or ss' w r in
    let q : Seat = record { owner = p.owner; passes = c.replace.new.dest; list = p.list } in
    let m = inv.0.many in
    let lt : w < length ss' = let n = row.on.many in let t = c.loop-w-test.true in omega (arith, m, n, t) in
    let at = ap (λ v. v.items) c.replace.ensures.after in
    let passes : ArePassesOf stealer_deque call c.args.thieves.now q.passes.items = subst (λ ps. ArePassesOf stealer_deque call c.args.thieves.now ps) (sym at) row.passes in
    let fresh : AreFresh q.passes.items = subst (λ ps. AreFresh ps) (sym at) row.fresh in (
      seats_on_next was ss ss' w r q inv.0 row.on lt refl,
      lent_next call (length ss) (length was) w ss' r q m row.on.many row.lent lt refl refl,
      rows_next stealer_deque call c.args.thieves.now w ss ss' q inv.2 row.on lt passes fresh,
      (let n = c.next_row-room.ensures.fewer in let k = inv.3 in omega (arith, n, k)),
      c.next_row-room.ensures.room,
    )

pub returns-clause-on : goal.returns-clause-on
returns-clause-on g c = c.loop-w.invariant.0

pub returns-clause-open : goal.returns-clause-open
returns-clause-open g c =
    let inv = c.loop-w.invariant in
    all_open stealer_deque (call_of c.args.pool.now) c.args.thieves.now c.loop-w.w c.loop-w.seats (length c.args.seats.now) inv.1 inv.2 inv.0.many c.requires.many (let m = inv.0.many in omega (arith, m, c.loop-w-test.false, c.loop-w.auto.w-end))

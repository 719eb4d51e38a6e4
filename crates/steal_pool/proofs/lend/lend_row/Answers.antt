use Rattle.std.proofs.Common.{◌<◌, ◌∷◌, [], length, get_or, arith, ap, sym, subst}
use Rattle.std.proofs.lemmas.List.{length-append}
use Rattle.crossbeam_deque.specs.Handles.{stealer_deque}
use Rattle.steal_pool.specs.Gather.{AreEnds}
use Rattle.steal_pool.specs.Making.{AreLent}
use Rattle.steal_pool.specs.Pools.{call_of}
use Rattle.steal_pool.specs.Seats.{AreFresh}
use Rattle.steal_pool.proofs.Lending.{ends_none, ends_more, fresh_more, fresh_none, lent_is, lent_on_none, lent_on_put, lent_put, own_pass, row_whole}
use Rattle.steal_pool.proofs.lend.lend_row.Goals as goal

pub loop-d-init : goal.loop-d-init
loop-d-init g c =
    let none = c.requires.empty in
    let passes = c.args.room.items in
    (lent_on_none c.args.seats.now, c.requires.lent, ends_none stealer_deque (call_of c.args.pool.now) c.args._thieves.now passes none, fresh_none passes none, ap length none, c.requires.room)

pub lend_at-pass-requires : goal.lend_at-pass-requires
lend_at-pass-requires g c =
    let inv = c.loop-d.invariant in
    lent_is (call_of c.args.pool.now) (length c.args.seats.now) c.loop-d.d c.args.out c.loop-d.seats c.index-seats-d.result inv.1 (let m = inv.0.many in let t = c.loop-d-test.true in omega (arith, m, t))

pub loop-d-preserved : goal.loop-d-preserved
loop-d-preserved g c =
    let inv = c.loop-d.invariant in
    let call = call_of c.args.pool.now in
    let was = c.args.seats.now in
    let ss = c.loop-d.seats in
    let d = c.loop-d.d in
    let r = c.index-seats-d.result in
    let p = get_or ss d r in
    let q = c.lend_at-pass.new.seat in
    let pass = c.lend_at-pass.result in
    let is = ap (get_or ss d) c.index-seats-d.is in
    let m = inv.0.many in
    let lt : d < length ss = let t = c.loop-d-test.true in omega (arith, m, t) in
    let in_ds : d < length c.args._thieves.now = let e = c.requires.many in omega (arith, m, e, lt) in
    let items = c.push_reserved.ensures.items in
    let lent = c.lend_at-pass.ensures in
    let own = own_pass stealer_deque c.args._thieves.now was ss d p pass inv.0 c.requires.deques lt is lent.own in (
      lent_on_put was ss d p q inv.0 lt is lent.on,
      lent_put call (length was) d c.args.out ss q inv.1 lt lent.dealt,
      subst (λ ps. AreEnds stealer_deque call c.args._thieves.now ps) (sym items) (ends_more stealer_deque call c.args._thieves.now c.loop-d.passes.items pass d inv.2 inv.4 in_ds own lent.fresh),
      subst (λ ps. AreFresh ps) (sym items) (fresh_more call c.loop-d.passes.items pass d inv.4 inv.3 lent.fresh),
      (let n = ap length items in let k = length-append c.loop-d.passes.items (pass ∷ []) in let e = inv.4 in omega (arith, n, k, e)),
      (let a = inv.5 in let b = c.push_reserved.ensures.capacity in omega (arith, a, b)),
    )

pub returns-clause-lent : goal.returns-clause-lent
returns-clause-lent g c =
    let inv = c.loop-d.invariant in
    let m = inv.0.many in
    subst (λ n. AreLent (call_of c.args.pool.now) (length c.args.seats.now) n c.args.out c.loop-d.seats) (omega (arith, m, c.loop-d-test.false, c.loop-d.auto.d-end)) inv.1

pub returns-clause-passes : goal.returns-clause-passes
returns-clause-passes g c =
    let inv = c.loop-d.invariant in
    let m = inv.0.many in
    row_whole stealer_deque (call_of c.args.pool.now) c.args._thieves.now c.loop-d.passes.items inv.2 (let e = inv.4 in let n = c.requires.many in omega (arith, m, e, n, c.loop-d-test.false, c.loop-d.auto.d-end))

pub returns-clause-fresh : goal.returns-clause-fresh
returns-clause-fresh g c = c.loop-d.invariant.3

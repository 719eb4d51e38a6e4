use Rattle.std.proofs.Common.{◌≡◌, ◌+◌, ◌-◌, ◌<◌, length, ap, ◌∙◌, subst, ℕ, arith, get_or, set, refl}
use Rattle.std.proofs.lemmas.List.{length-set}
use Rattle.crossbeam_deque.specs.Handles.{stealer_deque}
use Rattle.steal_pool.specs.declared.seat.Seat.{Seat}
use Rattle.steal_pool.specs.Pools.{call_of}
use Rattle.steal_pool.specs.Gather.{AreOut, owners_weigh}
use Rattle.steal_pool.specs.Seats.{passes_weigh}
use Rattle.steal_pool.proofs.Rows.{out_row, have_next, aside_next, weighs_next, all_none}
use Rattle.steal_pool.proofs.gather.take_all.Goals as goal

pub take_row-requires-clause-out : goal.take_row-requires-clause-out
take_row-requires-clause-out g c =
    let inv = c.loop-w.invariant in
    let ss = c.loop-w.seats in
    let w = c.loop-w.w in
    let r = c.index-seats-w.result in
    let p = get_or ss w r in
    let q : Seat = record { owner = p.owner; passes = c.replace-passes.new.dest; list = p.list } in
    let l = length-set ss w q in
    let lt : w < length ss = let t = c.loop-w-test.true in let e = inv.0 in omega arith in
    out_row stealer_deque (call_of c.args.pool.now) c.args.thieves.now (length c.args.seats.now - w) _ _ w ss r q inv.2 (let e = inv.0 in omega arith) (omega arith) lt refl

pub loop-w-preserved : goal.loop-w-preserved
loop-w-preserved g c =
    let inv = c.loop-w.invariant in
    let ss = c.loop-w.seats in
    let ss' = c.take_row.new.seats in
    let w = c.loop-w.w in
    let call = call_of c.args.pool.now in
    let r = c.index-seats-w.result in
    let p = get_or ss w r in
    let is = ap (get_or ss w) c.index-seats-w.is in
    let q : Seat = record { owner = p.owner; passes = c.replace-passes.new.dest; list = p.list } in
    let l = length-set ss w q in
    let lt : w < length ss = let t = c.loop-w-test.true in let e = inv.0 in omega arith in
    let same : length ss' ≡ length ss = c.take_row.ensures.many ∙ l in
    let none = ap (λ v. v.items) c.replace-passes.ensures.after ∙ c.new.ensures.items in (
      same ∙ inv.0,
      have_next stealer_deque call c.args.thieves.now w ss ss' q inv.1 c.take_row.ensures.kept same lt none,
      subst (λ (n : ℕ). AreOut stealer_deque call c.args.thieves.now 0 n ss') (let e = inv.0 in omega arith) c.take_row.ensures.out,
      aside_next c.args.seats.now ss ss' w r q inv.0 inv.3 c.take_row.ensures.kept lt refl refl,
      (λ k. weighs_next k ss ss' w p q same lt is refl none c.take_row.ensures.kept
          (c.take_row.ensures.weighs k ∙ ap (λ (n : ℕ). owners_weigh k (set ss w q) + n) (ap (λ v. passes_weigh k v.items) c.replace-passes.ensures.value)) ∙ inv.4 k),
    )

pub returns-clause-weighs : goal.returns-clause-weighs
returns-clause-weighs g c = λ k.
    let inv = c.loop-w.invariant in
    let n = all_none stealer_deque (call_of c.args.pool.now) c.args.thieves.now c.loop-w.w c.loop-w.seats k inv.1 (let e = inv.0 in let t = c.loop-w-test.false in omega arith) in
    let h = inv.4 k in omega arith

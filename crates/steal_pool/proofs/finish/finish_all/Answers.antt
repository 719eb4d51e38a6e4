use Rattle.std.proofs.Common.{◌<◌, length, ap, ◌∙◌, arith, get_or, rules}
use Rattle.std.proofs.lemmas.List.{length-set}
use Rattle.steal_pool.specs.Pools.{call_of}
use Rattle.steal_pool.proofs.Finishing.{finished_next, sums_next, pushed_next, all_pushed}
use Rattle.steal_pool.proofs.finish.finish_all.Goals as goal

pub finish-requires : goal.finish-requires
finish-requires g c =
    let inv = c.loop-w.invariant in
    let w = c.loop-w.w in
    let lt : w < length c.loop-w.seats = let t = c.loop-w-test.true in let e = inv.0 in omega arith in
    let left = inv.1.left w c.index-seats-w.result (omega arith) lt in
    search (rules, left) parts 8

pub loop-w-preserved : goal.loop-w-preserved
loop-w-preserved g c =
    let inv = c.loop-w.invariant in
    let ss = c.loop-w.seats in
    let w = c.loop-w.w in
    let call = call_of c.args.pool.now in
    let p = get_or ss w c.index-seats-w.result in
    let is = ap (get_or ss w) c.index-seats-w.is in
    let q = c.finish.new.seat in
    let lt : w < length ss = let t = c.loop-w-test.true in let e = inv.0 in omega arith in (
      length-set ss w q ∙ inv.0,
      finished_next call w ss q inv.1 lt c.finish.ensures.finished,
      (λ k. let a = sums_next k ss w p q lt is (c.finish.ensures.moved k) in let h = inv.2 k in omega arith),
      (λ k. pushed_next k ss w p q lt is c.finish.ensures.pushed ∙ inv.3 k),
    )

pub returns-clause-once : goal.returns-clause-once
returns-clause-once g c = λ k.
    let inv = c.loop-w.invariant in
    inv.2 k ∙ all_pushed (call_of c.args.pool.now) c.loop-w.w c.loop-w.seats k inv.1 (let e = inv.0 in let t = c.loop-w-test.false in omega arith) ∙ inv.3 k

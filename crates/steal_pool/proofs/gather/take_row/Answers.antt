use Rattle.std.proofs.Common.{◌≡◌, ◌+◌, ◌<◌, length, ap, ◌∙◌, subst, ℕ, arith, vec_len, get_or, set}
use Rattle.std.proofs.lemmas.Grind.{common_steps}
use Rattle.std.proofs.lemmas.List.{length-set}
use Rattle.crossbeam_deque.specs.Handles.{stealer_deque}
use Rattle.steal_pool.specs.Pools.{call_of}
use Rattle.steal_pool.specs.Gather.{AreOut}
use Rattle.steal_pool.proofs.Gathering.{out_put, kept_put, owners_put, ends_but_last, passes_but_last}
use Rattle.steal_pool.proofs.gather.take_row.Goals as goal

pub loop-pass-preserved : goal.loop-pass-preserved
loop-pass-preserved g c =
    let inv = c.loop-pass.invariant in
    let call = call_of c.args.pool.now in
    let ss = c.loop-pass.seats in
    let d = c.len-d.result in
    let r = c.index-seats-d.result in
    let p = get_or ss d r in
    let q = c.take_at.new.seat in
    let is = ap (get_or ss d) c.index-seats-d.is in
    let len : vec_len c.loop-pass.passes ≡ d + 1 = let a = c.len-d.ensures in let b = c.in-Some.ensures.len in omega arith in
    let in_ds : d < length c.args.thieves.now = grind (arith, common_steps) in
    let lt : d < length ss = let a = inv.0 in let b = c.requires.many in omega arith in (
      length-set ss d q ∙ inv.0,
      ends_but_last stealer_deque call c.args.thieves.now c.loop-pass.passes.items c.pop.new.self.items c.in-Some.pass c.in-Some.ensures.items inv.1,
      subst (λ (n : ℕ). AreOut stealer_deque call c.args.thieves.now n c.args.left (set ss d q)) c.len-d.ensures
          (out_put stealer_deque call c.args.thieves.now c.args.left d ss c.index-thieves-d.result q
          (subst (λ (n : ℕ). AreOut stealer_deque call c.args.thieves.now n c.args.left ss) len inv.2) lt in_ds c.index-thieves-d.is c.take_at.ensures.out),
      kept_put c.args.seats.now ss d p q inv.0 inv.3 lt is c.take_at.ensures.kept,
      (λ k.
          let a = owners_put k ss d p q lt is in
          let b = c.take_at.ensures.weighs k in
          let e = passes_but_last k c.loop-pass.passes.items c.pop.new.self.items c.in-Some.pass c.in-Some.ensures.items in
          let h = inv.4 k in omega arith),
    )

use Rattle.std.proofs.Common.{◌+◌, ◌∷◌, [], length, arith, rules, ap, sym, subst}
use Rattle.std.proofs.lemmas.Grind.{common_steps}
use Rattle.std.proofs.lemmas.List.{length-append}
use Rattle.crossbeam_deque.specs.Handles.{stealer_deque}
use Rattle.steal_pool.specs.Making.{AreAtTo}
use Rattle.steal_pool.proofs.Opening.{at_more, none_at}
use Rattle.steal_pool.proofs.making.thieves_of.Goals as goal

pub loop-w-init : goal.loop-w-init
loop-w-init c = record {
  made = first_of (search rules, grind (arith, common_steps));
  at = none_at stealer_deque _ c.args.seats.now;
  room = first_of (search rules, grind (arith, common_steps));
}

pub loop-w-preserved : goal.loop-w-preserved
loop-w-preserved c =
    let old = c.loop-w.invariant in
    let w = c.loop-w.w in
    let items = c.push_reserved.ensures.items in
    let thief = c.in_ok-thief.thief in
    record {
      made = (let n = ap length items in omega (arith, n, length-append c.loop-w.thieves.items (thief ∷ []), old.made));
      at = subst (λ ts. AreAtTo stealer_deque (w + 1) ts c.args.seats.now) (sym items)
          (at_more stealer_deque w c.loop-w.thieves.items c.args.seats.now thief c.index-seats-w.result old.made c.loop-w-test.true c.index-seats-w.is c.in_ok-thief.ensures old.at);
      room = omega (arith, old.room, c.push_reserved.ensures.capacity);
    }

pub returns-clause-deques : goal.returns-clause-deques
returns-clause-deques c i t s lt = c.loop-w.invariant.at i t s (omega (arith, lt, c.loop-w-test.false))

use Rattle.std.proofs.Common.{◌≡◌, ◌≤◌, ◌∷◌, [], length, arith, rules, ap, sym, subst, vec_items, vec_capacity}
use Rattle.std.proofs.lemmas.Grind.{common_steps}
use Rattle.std.proofs.lemmas.List.{length-append}
use Rattle.steal_pool.specs.Making.{AreRoomy}
use Rattle.steal_pool.proofs.Lending.{none_roomy, roomy_more}
use Rattle.steal_pool.proofs.lend.rows_of.Goals as goal

pub loop-init : goal.loop-init
loop-init c =
    let rows = c.in_ok-rows.rows in
    let none : rows.items ≡ [] = first_of (search rules, grind (arith, common_steps)) in
    let room : c.args.workers ≤ vec_capacity rows = first_of (search rules, grind (arith, common_steps)) in
    record {
      made = ap length none;
      roomy = none_roomy vec_items vec_capacity c.args.workers rows.items none;
      room = room;
    }

pub loop-preserved : goal.loop-preserved
loop-preserved c =
    let old = c.loop.invariant in
    let items = c.push_reserved.ensures.items in
    let row = c.in_ok-row.row in
    let none : row.items ≡ [] = first_of (search rules, grind (arith, common_steps)) in
    let enough : c.args.workers ≤ vec_capacity row = first_of (search rules, grind (arith, common_steps)) in
    record {
      made = (let n = ap length items in omega (arith, n, length-append c.loop.rows.items (row ∷ []), old.made));
      roomy = subst (λ rs. AreRoomy vec_items vec_capacity c.args.workers rs) (sym items) (roomy_more vec_items vec_capacity c.args.workers c.loop.rows.items row old.roomy none enough);
      room = omega (arith, old.room, c.push_reserved.ensures.capacity);
    }

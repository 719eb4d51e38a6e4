use Rattle.std.proofs.Common.{◌+◌, ◌++◌, ◌∷◌, drop, length, vec_items, arith, rules, ap, sym, ◌∙◌, append-nil}
use Rattle.std.specs.Vec.Iter.{into_iter_items}
use Rattle.std.proofs.lemmas.List.{drop_all, length-append}
use Rattle.cull_base.proofs.Lists.{turn}
use Rattle.steal_pool.specs.Lists.{joined}
use Rattle.steal_pool.proofs.Joining.{joined_next}
use Rattle.steal_pool.proofs.lists.join_lists.Goals as goal

pub loop-list-init : goal.loop-list-init
loop-list-init c = (tt, tt, search rules, search rules, ap (λ l. l ++ joined vec_items c.args.lists.items) c.requires.empty, c.requires.room)

pub append-requires : goal.append-requires
append-requires c =
    let i = c.loop-list.invariant in
    let x = c.in-Some.list in
    let e = sym i.2 ∙ c.in-Some.ensures.steps.0 in
    let others = into_iter_items c.next.new.self in
    let whole = ap length (joined_next vec_items c.loop-list.all.items (drop c.loop-list.done c.args.lists.items) others x e ∙ i.4) in
    let a = length-append (c.loop-list.all.items ++ x.items) (joined vec_items others) in
    let b = length-append c.loop-list.all.items x.items in
    omega (arith, whole, c.loop-list.all.ok.0, x.ok.0, a, b, i.5)

pub loop-list-preserved : goal.loop-list-preserved
loop-list-preserved c =
    let i = c.loop-list.invariant in
    let s = c.in-Some.ensures.steps in
    let x = c.in-Some.list in
    let e = sym i.2 ∙ s.0 in
    let t = turn c.args.lists.items c.loop-list.done x _ e in (
      tt,
      tt,
      t.0,
      omega (arith, i.3, s.1),
      ap (λ l. l ++ joined vec_items (drop (c.loop-list.done + 1) c.args.lists.items)) c.append.ensures.items
          ∙ joined_next vec_items c.loop-list.all.items (drop c.loop-list.done c.args.lists.items) _ x (e ∙ ap (λ l. x ∷ l) t.0) ∙ i.4,
      omega (arith, i.5, c.append.ensures.capacity),
    )

pub returns : goal.returns
returns c =
    let i = c.loop-list.invariant in
    let none = c.in-None.ensures.steps.0 in
    let end = ap (joined vec_items) (drop_all c.loop-list.done c.args.lists.items (omega (arith, i.3, none))) in
    sym (append-nil c.loop-list.all.items) ∙ sym (ap (λ l. c.loop-list.all.items ++ l) end) ∙ i.4

use Rattle.std.proofs.Common.{◌+◌, ◌∷◌, [], drop, length, vec_items, arith, rules, refl, ap, sym, ◌∙◌, subst}
use Rattle.std.proofs.lemmas.List.{length-append}
use Rattle.cull_base.proofs.Lists.{turn}
use Rattle.steal_pool.specs.Lists.{AreListed}
use Rattle.steal_pool.specs.Pools.{call_of}
use Rattle.steal_pool.proofs.Joining.{all_listed, listed_more, none_listed}
use Rattle.steal_pool.proofs.lists.lists_of.Goals as goal

pub loop-seat-init : goal.loop-seat-init
loop-seat-init g c = (tt, tt, search rules, search rules, ap length c.requires.empty, (none_listed vec_items (call_of c.args._pool.now) c.args.seats.items c.args.room.items c.requires.empty, c.requires.room))

pub push_reserved-requires : goal.push_reserved-requires
push_reserved-requires g c =
    let i = c.loop-seat.invariant in
    let t = turn c.args.seats.items c.loop-seat.done c.in-Some.seat _ (sym i.2 ∙ c.in-Some.ensures.steps.0) in
    omega (arith, t.2, i.4, i.5.1, c.loop-seat.lists.ok.0)

pub loop-seat-preserved : goal.loop-seat-preserved
loop-seat-preserved g c =
    let i = c.loop-seat.invariant in
    let s = c.in-Some.ensures.steps in
    let x = c.in-Some.seat in
    let e = sym i.2 ∙ s.0 in
    let t = turn c.args.seats.items c.loop-seat.done x _ e in
    let items = c.push_reserved.ensures.items in
    let call = call_of c.args._pool.now in (
      tt,
      tt,
      t.0,
      omega (arith, i.3, s.1),
      (let n = ap length items in omega (arith, n, length-append c.loop-seat.lists.items (x.list ∷ []), i.4)),
      (
        subst (λ ls. AreListed vec_items call c.args.seats.items (drop (c.loop-seat.done + 1) c.args.seats.items) ls) (sym items)
            (listed_more vec_items call c.args.seats.items (drop c.loop-seat.done c.args.seats.items) _ c.loop-seat.lists.items x x.list c.loop-seat.done i.5.0 (e ∙ ap (λ l. x ∷ l) t.0) refl t.1 t.2 c.requires.finished),
        omega (arith, i.5.1, c.push_reserved.ensures.capacity),
      ),
    )

pub returns-clause-count : goal.returns-clause-count
returns-clause-count g c = let i = c.loop-seat.invariant in let none = c.in-None.ensures.steps.0 in omega (arith, i.3, i.4, none)

pub returns-clause-once : goal.returns-clause-once
returns-clause-once g c = λ k.
    let i = c.loop-seat.invariant in
    let none = c.in-None.ensures.steps.0 in
    all_listed vec_items (call_of c.args._pool.now) c.args.seats.items c.loop-seat.lists.items c.loop-seat.done k i.5.0 (omega (arith, i.3, none))

pub returns-clause-whole : goal.returns-clause-whole
returns-clause-whole g c = c.loop-seat.invariant.5.0.whole

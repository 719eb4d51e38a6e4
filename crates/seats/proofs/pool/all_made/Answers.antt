use Rattle.std.proofs.Common.{◌≡◌, [], length, arith, rules, sym, subst, ◌∙◌}
use Rattle.cull_base.proofs.Lists.{turn}
use Rattle.seats.specs.Things.{AreAllMade, IsThing}
use Rattle.seats.proofs.First.{there_at}
use Rattle.seats.proofs.Things.{made_more, none_made}
use Rattle.seats.proofs.pool.all_made.Goals as goal

pub loop-slot-init : goal.loop-slot-init
loop-slot-init g c =
    let none : c.in_ok-things.things.items ≡ [] = search rules in
    (tt, tt, search rules, search rules, none_made (g.M.Makes.made c.args.maker.now) c.in_ok-things.things.items none, search rules)

pub push_reserved-requires : goal.push_reserved-requires
push_reserved-requires g c =
    let i = c.loop-slot.invariant in
    let t = turn c.args.slots.items c.loop-slot.number c.in-Some.slot _ (sym i.2 ∙ c.in-Some.ensures.steps.0) in
    omega (arith, t.2, i.4.count_is, i.5, c.loop-slot.things.ok.0)

pub made_in-thing-requires : goal.made_in-thing-requires
made_in-thing-requires g c =
    let i = c.loop-slot.invariant in
    let t = turn c.args.slots.items c.loop-slot.number c.in-Some.slot _ (sym i.2 ∙ c.in-Some.ensures.steps.0) in
    there_at (IsThing (g.M.Makes.waits c.args.maker.now) (g.M.Makes.made c.args.maker.now)) c.args.slots.items c.loop-slot.number c.in-Some.slot t.1 t.2 c.requires

pub loop-slot-preserved : goal.loop-slot-preserved
loop-slot-preserved g c =
    let i = c.loop-slot.invariant in
    let s = c.in-Some.ensures.steps in
    let t = turn c.args.slots.items c.loop-slot.number c.in-Some.slot _ (sym i.2 ∙ s.0) in (
      tt,
      tt,
      t.0,
      omega (arith, i.3, s.1),
      made_more (g.M.Makes.made c.args.maker.now) c.loop-slot.number c.loop-slot.things.items _ c.made_in-thing.result c.push_reserved.ensures.items i.4 c.made_in-thing.ensures,
      omega (arith, i.5, c.push_reserved.ensures.capacity),
    )

pub returns : goal.returns
returns g c =
    let i = c.loop-slot.invariant in
    let all : c.loop-slot.number ≡ length c.args.slots.items = omega (arith, i.3, c.in-None.ensures.steps.0) in
    subst (λ n. AreAllMade (g.M.Makes.made c.args.maker.now) n c.loop-slot.things.items) all i.4

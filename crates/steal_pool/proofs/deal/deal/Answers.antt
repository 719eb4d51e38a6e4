use Rattle.std.proofs.Common.{◌≡◌, ◌∷◌, ℕ, ◌%◌, ◌<◌, length, get_or, arith, rules, refl, ap, sym, ◌∙◌}
use Rattle.std.proofs.lemmas.List.{length-set}
use Rattle.cull_base.proofs.Lists.{turn}
use Rattle.steal_pool.specs.declared.seat.Seat.{Seat}
use Rattle.steal_pool.specs.Pools.{call_of}
use Rattle.steal_pool.proofs.Opening.{none_dealt}
use Rattle.steal_pool.proofs.Dealing.{dealt_more, may_push, none_left}
use Rattle.steal_pool.proofs.deal.deal.Goals as goal

pub loop-task-init : goal.loop-task-init
loop-task-init g c = (tt, tt, search rules, search rules, refl, none_dealt (call_of c.args._pool.now) c.args.seats.now c.args.tasks.items c.requires.empty c.requires.told c.requires.room)

pub push-requires : goal.push-requires
push-requires g c =
    let i = c.loop-task.invariant in
    let x = c.in-Some.task in
    let e = sym i.2 ∙ c.in-Some.ensures.steps.0 in
    let may = may_push (call_of c.args._pool.now) c.args.seats.now c.loop-task.seats c.args.tasks.items _ _ x c.worker_of-worker.result c.index-seats-worker.result i.5 e (omega (arith, c.worker_of-worker.ensures.within, i.4, c.requires.many))
    (c.worker_of-worker.ensures.value ∙ ap (λ (n : ℕ). x.of.bin % n) (sym c.requires.many)) in
    record { owns = may.owns; told = may.told; short = may.short; room = may.room }

pub loop-task-preserved : goal.loop-task-preserved
loop-task-preserved g c =
    let i = c.loop-task.invariant in
    let s = c.in-Some.ensures.steps in
    let x = c.in-Some.task in
    let ss = c.loop-task.seats in
    let w = c.worker_of-worker.result in
    let e = sym i.2 ∙ s.0 in
    let t = turn c.args.tasks.items c.loop-task.done x _ e in
    let r = c.index-seats-worker.result in
    let p = get_or ss w r in
    let q : Seat = record { owner = c.push.new.owner; passes = p.passes; list = p.list } in
    let lt : w < length ss = omega (arith, c.worker_of-worker.ensures.within, i.4, c.requires.many) in
    let at : w ≡ x.of.bin % length c.args.seats.now = c.worker_of-worker.ensures.value ∙ ap (λ (n : ℕ). x.of.bin % n) (sym c.requires.many) in (
      tt,
      tt,
      t.0,
      omega (arith, i.3, s.1),
      length-set ss w q ∙ i.4,
      dealt_more (call_of c.args._pool.now) c.args.seats.now ss c.args.tasks.items _ _ x w r q i.5 (e ∙ ap (λ l. x ∷ l) t.0) lt at refl c.push.ensures.same c.push.ensures.pushed,
    )

pub returns-clause-dealt : goal.returns-clause-dealt
returns-clause-dealt g c i s lt = (c.loop-task.invariant.5.filling i s lt).dealt

pub returns-clause-once : goal.returns-clause-once
returns-clause-once g c = λ k.
    let i = c.loop-task.invariant in
    let none = c.in-None.ensures.steps.0 in
    none_left (call_of c.args._pool.now) c.args.seats.now c.loop-task.seats c.args.tasks.items c.loop-task.done k i.5 (omega (arith, i.3, none))

pub returns-clause-deques : goal.returns-clause-deques
returns-clause-deques g c = c.loop-task.invariant.5.same

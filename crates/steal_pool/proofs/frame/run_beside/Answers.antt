use Rattle.std.proofs.Common.{length, arith, ap, sym, ◌∙◌, subst}
use Rattle.crossbeam_deque.specs.Handles.{stealer_deque}
use Rattle.steal_pool.specs.Finish.{AreAt, AreFinishedTo}
use Rattle.steal_pool.specs.Pools.{call_of, tasks_weigh}
use Rattle.steal_pool.proofs.frame.run_beside.Goals as goal

pub fill-requires-clause-many : goal.fill-requires-clause-many
fill-requires-clause-many g c = sym (ap length c.as_slice-lent.ensures.value ∙ c.in_ok-thieves.ensures.count)

pub fill-requires-clause-deques : goal.fill-requires-clause-deques
fill-requires-clause-deques g c = subst (λ ts. AreAt stealer_deque ts c.args.seats.now) (sym c.as_slice-lent.ensures.value) c.in_ok-thieves.ensures.deques

pub drain_beside-requires-clause-many : goal.drain_beside-requires-clause-many
drain_beside-requires-clause-many g c = omega (arith, c.fill.ensures.many, ap length c.as_slice-lent.ensures.value, c.in_ok-thieves.ensures.count)

pub returns-clause-many : goal.returns-clause-many
returns-clause-many g c = c.drain_beside.ensures.many ∙ c.fill.ensures.many

pub returns-clause-finished : goal.returns-clause-finished
returns-clause-finished g c = subst (λ n. AreFinishedTo (call_of c.args.pool.now) n c.drain_beside.new.seats) (sym c.drain_beside.ensures.many) c.drain_beside.ensures.finished

pub returns-clause-once : goal.returns-clause-once
returns-clause-once g c = λ k. c.drain_beside.ensures.once k ∙ c.fill.ensures.once k ∙ ap (λ v. tasks_weigh k v.items) c.replace-given.ensures.value

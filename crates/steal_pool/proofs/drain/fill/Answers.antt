use Rattle.std.proofs.Common.{All, ◌∙◌, sym, subst}
use Rattle.crossbeam_deque.specs.Handles.{stealer_deque}
use Rattle.steal_pool.specs.Making.{IsDealt}
use Rattle.steal_pool.specs.Pools.{call_of}
use Rattle.steal_pool.proofs.Filling.{at_same, pushed_on}
use Rattle.steal_pool.proofs.Lending.{at_on}
use Rattle.steal_pool.proofs.drain.fill.Goals as goal

pub lend_all-requires-clause-deques : goal.lend_all-requires-clause-deques
lend_all-requires-clause-deques g c = at_same stealer_deque c.args.thieves.now c.args.seats.now c.deal.new.seats c.deal.ensures.many c.deal.ensures.deques c.requires.deques

pub lend_all-requires-clause-dealt : goal.lend_all-requires-clause-dealt
lend_all-requires-clause-dealt g c = subst (λ n. All (IsDealt (call_of c.args.pool.now) n 0) c.deal.new.seats) (sym c.deal.ensures.many) c.deal.ensures.dealt

pub returns-clause-many : goal.returns-clause-many
returns-clause-many g c = c.lend_all.ensures.on.many ∙ c.deal.ensures.many

pub returns-clause-deques : goal.returns-clause-deques
returns-clause-deques g c =
    at_on stealer_deque c.args.thieves.now c.deal.new.seats c.lend_all.new.seats c.lend_all.ensures.on
    (at_same stealer_deque c.args.thieves.now c.args.seats.now c.deal.new.seats c.deal.ensures.many c.deal.ensures.deques c.requires.deques)

pub returns-clause-once : goal.returns-clause-once
returns-clause-once g c = λ k. pushed_on k c.deal.new.seats c.lend_all.new.seats c.lend_all.ensures.on ∙ c.deal.ensures.once k

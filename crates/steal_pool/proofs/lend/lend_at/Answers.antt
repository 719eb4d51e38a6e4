use Rattle.std.proofs.Common.{[], refl, ap, ◌∙◌}
use Rattle.crossbeam_deque.specs.Handles.{worker_view}
use Rattle.steal_pool.specs.declared.deque_rule.View.{View}
use Rattle.steal_pool.specs.DequeRule.{stealing}
use Rattle.steal_pool.specs.Pools.{call_of}
use Rattle.steal_pool.proofs.Lending.{lent_view}
use Rattle.steal_pool.proofs.lend.lend_at.Goals as goal

pub returns-clause-dealt : goal.returns-clause-dealt
returns-clause-dealt g c = record {
  owns = lent_view (call_of c.args._pool.now) (worker_view c.args.seat.now.owner) (worker_view c.lend.new.owner) c.args._out c.requires.owns c.lend.ensures.lent.0;
  fifo = c.lend.ensures.same.0.1 ∙ c.requires.fifo;
  empty = c.requires.empty;
  none = c.requires.none;
  room = c.requires.room;
}

pub returns-clause-on : goal.returns-clause-on
returns-clause-on g c = record {
  passes = refl;
  pushed = ap (λ (v : View). v.pushed) c.lend.ensures.lent.0;
  deque = c.lend.ensures.same.0.0;
}

pub returns-clause-fresh : goal.returns-clause-fresh
returns-clause-fresh g c = c.lend.ensures.lent.1 ∙ ap (λ (v : View). stealing v.of []) c.requires.owns

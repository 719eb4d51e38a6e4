use Rattle.std.proofs.Common.{ℕ, ap, ◌∙◌}
use Rattle.crossbeam_deque.specs.Handles.{view, worker_view}
use Rattle.steal_pool.specs.declared.deque_rule.View.{View}
use Rattle.steal_pool.specs.Pools.{bins_weigh}
use Rattle.steal_pool.proofs.Weights.{weigh_append}
use Rattle.steal_pool.proofs.gather.take_at.Goals as goal

pub returns-clause-weighs : goal.returns-clause-weighs
returns-clause-weighs g c = λ k. ap (λ (v : View). bins_weigh k v.taken) c.take_back.ensures.returned ∙ weigh_append (λ (p : ℕ × ℕ). k p.1) (worker_view c.args.seat.now.owner).taken (view c.args.pass).taken

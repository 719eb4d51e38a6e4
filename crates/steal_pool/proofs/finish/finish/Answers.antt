use Rattle.std.proofs.Common.{◌≡◌, ap, rules}
use Rattle.crossbeam_deque.specs.Handles.{worker_flavor, worker_view}
use Rattle.steal_pool.specs.declared.deque_rule.Role.TheVariants.{Owns}
use Rattle.steal_pool.specs.declared.deque_rule.View.{View}
use Rattle.steal_pool.proofs.Finishing.{has_all}
use Rattle.steal_pool.proofs.finish.finish.Goals as goal

pub pop_all-requires-clause-owns : goal.pop_all-requires-clause-owns
pop_all-requires-clause-owns g c =
    let owns : ((worker_view c.args.seat.now.owner).role ≡ Owns) × (worker_flavor c.args.seat.now.owner ≡ 0) = (ap (λ (v : View). v.role) c.requires.owns, c.requires.fifo) in
    search (rules, owns)

pub pop_all-requires-clause-of : goal.pop_all-requires-clause-of
pop_all-requires-clause-of g c =
    let here = ap (λ (v : View). v.of) c.requires.owns in
    search (rules, here)

pub returns-clause-finished : goal.returns-clause-finished
returns-clause-finished g c = record {
  whole = c.pop_all.ensures.whole;
  every = has_all _ _ (worker_view c.args.seat.now.owner) (worker_view c.pop_all.new.owner) (ap (λ (v : View). v.out) c.requires.owns) c.pop_all.ensures.drew c.pop_all.ensures.every;
}

use Rattle.std.proofs.lemmas.Nat.{mod_below}
use Rattle.steal_pool.proofs.deal.worker_of.Goals as goal

pub returns-clause-within : goal.returns-clause-within
returns-clause-within c = mod_below _ c.args.workers c.requires

use Rattle.steal_pool.specs.Pools.{call_of}
use Rattle.steal_pool.proofs.deque_steps.name.Given as goal

abbrev pub ghosts-named : goal.ghosts-named
ghosts-named g a = record { call = call_of a._pool.now }

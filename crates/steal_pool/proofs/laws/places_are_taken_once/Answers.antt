use Rattle.steal_pool.proofs.Counting.{stand_once, stand_nowhere_else, front}
use Rattle.steal_pool.proofs.laws.places_are_taken_once.Goals as goal

pub returns-clause-once : goal.returns-clause-once
returns-clause-once c = stand_once

pub returns-clause-others : goal.returns-clause-others
returns-clause-others c = stand_nowhere_else

pub returns-clause-front : goal.returns-clause-front
returns-clause-front c = front

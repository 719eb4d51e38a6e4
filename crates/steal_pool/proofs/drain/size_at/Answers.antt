use Rattle.std.proofs.Common.{ap, ◌∙◌}
use Rattle.std.proofs.lemmas.List.{get_or_default}
use Rattle.bin_queues.specs.Tasks.{Tasking}
use Rattle.steal_pool.proofs.drain.size_at.Goals as goal

pub returns : goal.returns
returns c t = c.size.ensures.value ∙ ap (λ (x : Tasking). x.of.frame.size) (c.index-tasks-place.is ∙ get_or_default c.args.tasks.now c.args.place c.index-tasks-place.result t c.requires)

use Rattle.std.proofs.Common.{ap, ◌∙◌}
use Rattle.std.proofs.lemmas.List.{get_or_default}
use Rattle.bin_queues.specs.Tasks.{Tasking}
use Rattle.steal_pool.proofs.drain.cut_at.Goals as goal

pub returns : goal.returns
returns c t = c.cut.ensures ∙ ap (λ (x : Tasking). x.of.frame.cut) (c.index-tasks-place.is ∙ get_or_default c.args.tasks.now c.args.place c.index-tasks-place.result t c.requires)

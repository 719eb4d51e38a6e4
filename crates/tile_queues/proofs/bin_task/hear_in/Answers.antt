use Rattle.std.proofs.Common.{sym, subst}
use Rattle.bin_queues.specs.Tasks.{Tasking}
use Rattle.tile_queues.specs.CellBins.{HoldsBin}
use Rattle.tile_queues.proofs.bin_task.hear_in.Goals as goal

pub returns-clause-holds : goal.returns-clause-holds
returns-clause-holds c = subst (λ (t : Tasking). HoldsBin t c.args.task.now.keeper) (sym c.tell.ensures.told) c.requires.holds

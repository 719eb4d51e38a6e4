use Rattle.std.proofs.Common.{sym, subst}
use Rattle.bin_queues.specs.QueueParts.{BatchedFrame}
use Rattle.tile_queues.specs.Shares.{AreFirstShares}
use Rattle.tile_queues.proofs.queues.BinQueues.make.Goals as goal

pub all_tasks-tasks-requires : goal.all_tasks-tasks-requires
all_tasks-tasks-requires g c = subst (λ (f : BatchedFrame). AreFirstShares c.in_ok-queues.queues f 1 c.in_ok-queues.shares.items) (sym c.in_ok-queues.ensures.frame.0) c.in_ok-queues.ensures.shares

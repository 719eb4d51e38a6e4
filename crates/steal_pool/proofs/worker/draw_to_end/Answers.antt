use Rattle.std.proofs.Common.{ap, rules}
use Rattle.bin_queues.specs.QueueParts.{BatchedFrame, BinOfFrame}
use Rattle.steal_pool.specs.Pools.{call_of}
use Rattle.steal_pool.proofs.Drawing.{is_whole}
use Rattle.steal_pool.proofs.worker.draw_to_end.Goals as goal

pub drain-requires-clause-queues : goal.drain-requires-clause-queues
drain-requires-clause-queues g c = search (rules, c.requires.over.of)

pub drain-requires-clause-cells : goal.drain-requires-clause-cells
drain-requires-clause-cells g c =
    let is = ap (λ (f : BatchedFrame). f.cells) c.requires.over.frame_is in
    search (rules, is)

pub drain-requires-clause-list : goal.drain-requires-clause-list
drain-requires-clause-list g c = let is = ap (λ (f : BatchedFrame). f.list) c.requires.over.frame_is in search (rules, is)

pub returns : goal.returns
returns g c = record { bin = ap (λ (b : BinOfFrame). b.bin) c.drain.ensures.on.of; whole = is_whole (call_of c.args.pool.now) c.drain.result c.args.task c.drain.new.task c.requires c.drain.ensures.on c.drain.ensures.answer c.drain.ensures.told }

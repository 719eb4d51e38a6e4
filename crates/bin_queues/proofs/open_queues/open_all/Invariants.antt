use Rattle.std.proofs.Common.{◌≡◌, ◌≤◌, All, map, vec_capacity}
use Rattle.crossbeam_queue.specs.Passes.{ruled_capacity}
use Rattle.crossbeam_utils.specs.Seq.{IsSamePass, cell_view}
use Rattle.bin_queues.specs.Frames.{over}
use Rattle.bin_queues.specs.QueueParts.{batches_in, bin_of_frame}
use Rattle.bin_queues.specs.Submitters.{AreOpenedTo}
use Rattle.bin_queues.proofs.open_queues.open_all.Given as goal

abbrev pub ghost-open_bin : goal.ghost-open_bin
ghost-open_bin g a = bin_of_frame (over a.frame.now g.cells) a.bin

abbrev pub invariant-loop-bin : goal.invariant-loop-bin
invariant-loop-bin g l =
    record {
      own : IsSamePass l.initial.pass l.pass × (cell_view l.pass ≡ cell_view l.initial.pass);
      opened : AreOpenedTo (over l.frame g.cells) l.number.table.shared.table_id l.bin (map (λ q. q.table.shared.table_id) l.queues.items) l.passes.items l.intakes.items;
      roomy : All (λ q. batches_in (over l.frame g.cells) ≤ ruled_capacity q) l.queues.items;
      room_of_queues : l.bins ≤ vec_capacity l.queues;
      room_of_passes : l.bins ≤ vec_capacity l.passes;
      room_of_intakes : l.bins ≤ vec_capacity l.intakes;
    }

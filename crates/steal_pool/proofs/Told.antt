-- Tasks that are told of all batches.
use Rattle.std.proofs.Common.{◌≡◌, ℕ, ◌≤◌, ◌<◌, max, List, length, get_or, arith, ap, sym, ◌∙◌, subst}
use Rattle.binning.specs.Cut.{bin_count_of}
use Rattle.bin_queues.specs.QueueParts.{BatchedFrame, batches_in}
use Rattle.bin_queues.specs.Tasks.{AreFirstTasks, IsTaskOf, QueuesOf, Tasking}
use Rattle.tile_queues.specs.Shares.{AreChanged}
use Rattle.steal_pool.specs.Lists.{AreTold}
use Rattle.steal_pool.specs.Telling.{IsToldMore}

-- a task that was told is of the same queues
pub told_task : (queues : QueuesOf) (t t' : Tasking) (batches : ℕ) → IsToldMore batches t t' → IsTaskOf queues t → IsTaskOf queues t'
told_task queues t t' batches told at = subst (IsTaskOf queues) (sym told) (record { queue = at.queue; number = at.number })

-- the tasks of all bins before the first batch, told of all batches
pub all_told_of : (queues : QueuesOf) (frame : BatchedFrame) (batches : ℕ) (ts ts' : List Tasking) → AreFirstTasks queues frame ts → batches ≡ batches_in frame → 1 ≤ bin_count_of frame.cut → AreChanged (IsToldMore batches) ts ts' → AreTold queues frame ts'
all_told_of queues frame batches ts ts' first all some changed =
    let n = first.count in
    let m = changed.count in
    record {
      some = omega (arith, n, m, some);
      tasks_are = record {
        count = m ∙ n;
        of = λ i d lt. let here : i < length ts = omega (arith, lt, m) in told_task queues (get_or ts i d) (get_or ts' i d) batches (changed.each i d here) (first.of i d here);
        frame_is = λ i d lt. let here : i < length ts = omega (arith, lt, m) in ap (λ (t : Tasking). t.of.frame) (changed.each i d here) ∙ ap (λ (t : Tasking). t.of.frame) (first.first i d here);
        all = λ b lt.
            let here : b < length ts = omega (arith, lt, n) in
            let there : b < length ts' = omega (arith, here, m) in
            (b, there, λ d. ap (λ (t : Tasking). t.of.bin) (changed.each b d here) ∙ ap (λ (t : Tasking). t.of.bin) (first.first b d here));
      };
      told = λ i d lt.
          let here : i < length ts = omega (arith, lt, m) in
          let most : (get_or ts' i d).told ≡ max (get_or ts i d).told batches = ap (λ (t : Tasking). t.told) (changed.each i d here) in
          let none : (get_or ts i d).told ≡ 0 = ap (λ (t : Tasking). t.told) (first.first i d here) in
          omega (arith, most, none, all);
    }

-- Tasks of a frame stay those of the frame where one of them goes on.
use Rattle.std.proofs.Common.{◌≡◌, ℕ, ◌<◌, List, length, set, length-set, arith, ap, ◌∙◌, sym, subst}
use Rattle.std.specs.Prelude.{slice_index_or}
use Rattle.tile_cells.proofs.Lists.{same_at, set_each}
use Rattle.bin_queues.specs.Tasks.{AreFirstTasks, GoesOn, IsTaskOf, QueuesOf, Tasking}
use Rattle.tile_queues.specs.Owners.{AreTasksOf}
use Rattle.bin_queues.specs.QueueParts.{BatchedFrame, BinOfFrame}
use Rattle.bin_queues.proofs.GoingOn.{task_of}

-- the tasks before the first batch are those of the frame
pub first_are : (queues : QueuesOf) (frame : BatchedFrame) (tasks : List Tasking) → AreFirstTasks queues frame tasks → AreTasksOf queues frame tasks
first_are queues frame tasks at = record {
  count = at.count;
  of = at.of;
  frame_is = λ i d lt. ap (λ (t : Tasking). t.of.frame) (at.first i d lt);
  all = λ b lt.
      let count = at.count in
      let inside : b < length tasks = omega (arith, lt, count) in
      (b, inside, λ d. ap (λ (t : Tasking). t.of.bin) (at.first b d inside));
}

module _ (queues : QueuesOf) (frame : BatchedFrame) (tasks : List Tasking) (place : ℕ) (old new : Tasking)
    (inside : place < length tasks) (here : old ≡ slice_index_or tasks place old) (on : GoesOn old new) (at : AreTasksOf queues frame tasks) where
  same_of : (i : ℕ) (d : Tasking) → i < length tasks → (e : Tasking) → (slice_index_or (set tasks place new) i d).of ≡ (slice_index_or tasks i e).of
  same_of i d lt = set_each (λ k (x : Tasking). (e : Tasking) → x.of ≡ (slice_index_or tasks k e).of) tasks place new (length tasks) inside
      (λ k f below other e. ap (λ (t : Tasking). t.of) (same_at tasks k f e below))
      (λ e. on.of ∙ ap (λ (t : Tasking). t.of) (here ∙ same_at tasks place old e inside)) i d lt

  -- one of them goes on
  pub still_tasks : AreTasksOf queues frame (set tasks place new)
  still_tasks =
      let long = length-set tasks place new in
      record {
        count = long ∙ at.count;
        of = λ i d lt. set_each (λ k (x : Tasking). IsTaskOf queues x) tasks place new (length tasks) inside
            (λ k f below other. at.of k f below)
            (task_of queues old new on.queue on.number on.of (subst (IsTaskOf queues) (sym here) (at.of place old inside))) i d (omega (arith, lt, long));
        frame_is = λ i d lt.
            let below : i < length tasks = omega (arith, lt, long) in
            ap (λ (b : BinOfFrame). b.frame) (same_of i d below d) ∙ at.frame_is i d below;
        all = λ b lt.
            let found = at.all b lt in
            (found.0, omega (arith, found.1, long), λ d. ap (λ (k : BinOfFrame). k.bin) (same_of found.0 d found.1 d) ∙ found.2 d);
      }

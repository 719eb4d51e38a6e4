-- Queues, passes and tasks of one bin more.
use Rattle.std.proofs.Common.{◌≡◌, ℕ, ◌+◌, ◌<◌, ◌≤◌, List, [], ◌∷◌, ◌++◌, Some, map, length, arith, refl, ap, ◌∙◌, sym, subst}
use Rattle.std.specs.Prelude.{slice_index_or}
use Rattle.std.proofs.lemmas.List.{length-append, length-map, map-append}
use Rattle.atomic_table.specs.Seated.{TableId}
use Rattle.binning.specs.Cut.{bin_count_of}
use Rattle.crossbeam_queue.specs.Passes.{view}
use Rattle.bin_queues.specs.Intakes.{QueueToken}
use Rattle.bin_queues.specs.QueueParts.{BatchedFrame, bin_of_frame}
use Rattle.bin_queues.specs.QueueRule.{submitter}
use Rattle.bin_queues.specs.Submitters.{AreOpenedTo, HavePushed}
use Rattle.bin_queues.specs.Tasks.{AreFirstTasks, IsAt, QueuesOf, Tasking, first_task}
use Rattle.cull_base.proofs.Lists.{get_last, get_pushed, pushed_at}

pub opened_none : (frame : BatchedFrame) (number : TableId) → AreOpenedTo frame number 0 [] [] []
opened_none frame number = record {
  queues = refl;
  count = refl;
  pushed = λ b d lt. absurd (omega arith);
  free = λ b d lt. absurd (omega arith);
  tasks = refl;
  own = λ b d lt. absurd (omega arith);
  first = λ b d lt. absurd (omega arith);
}

pub opened_more : {Q : Type 0} (id : Q → TableId) (frame : BatchedFrame) (number : TableId) (n : ℕ) (qs : List Q) (ps : List QueueToken) (ts : List Tasking) (q : Q) (p : QueueToken) (t : Tasking) → AreOpenedTo frame number n (map id qs) ps ts
    → p.table_id ≡ id q → p.me.1 ≡ [] → view p ≡ submitter (bin_of_frame frame n) 0 → t ≡ first_task (id q) number (bin_of_frame frame n) → AreOpenedTo frame number (n + 1) (map id (qs ++ q ∷ [])) (ps ++ p ∷ []) (ts ++ t ∷ [])
opened_more id frame number n qs ps ts q p t at own free pushed first =
    let e : map id (qs ++ q ∷ []) ≡ map id qs ++ id q ∷ [] = map-append id qs (q ∷ []) in
    let count = at.count in
    let tasks = at.tasks in
    let whole : length (map id qs) ≡ n = ap length (sym at.queues) ∙ length-map ps (λ (z : QueueToken). z.table_id) ∙ at.count in
    let queue : t.queue ≡ id q = ap (λ (w : Tasking). w.queue) first in
    record {
      queues = map-append (λ (z : QueueToken). z.table_id) ps (p ∷ []) ∙ (λ i. at.queues i ++ own i ∷ []) ∙ sym e;
      count = omega (arith, count, length-append ps (p ∷ []));
      pushed = pushed_at (λ b (z : QueueToken). view z ≡ submitter (bin_of_frame frame b) 0) n ps p at.count at.pushed pushed;
      free = pushed_at (λ b (z : QueueToken). z.me.1 ≡ []) n ps p at.count at.free free;
      tasks = omega (arith, tasks, length-append ts (t ∷ []));
      own = subst (λ ids. (b : ℕ) (d : Tasking) → b < n + 1 → IsAt ids b (slice_index_or (ts ++ t ∷ []) b d).queue) (sym e)
          (pushed_at (λ b (w : Tasking). IsAt (map id qs ++ id q ∷ []) b w.queue) n ts t at.tasks
          (λ b d lt. get_pushed (map id qs) (id q) b (omega (arith, lt, whole)) ∙ at.own b d lt) (get_last (map id qs) (id q) n whole ∙ ap Some (sym queue)));
      first = pushed_at (λ b (w : Tasking). w ≡ first_task w.queue number (bin_of_frame frame b)) n ts t at.tasks at.first
          (first ∙ ap (λ z. first_task z number (bin_of_frame frame n)) (sym queue));
    }

pub room_more : {Q : Type 0} (room : Q → ℕ) (most : ℕ) (qs : List Q) (q : Q) → ((n : ℕ) (d : Q) → n < length qs → most ≤ room (slice_index_or qs n d)) → most ≤ room q
    → (n : ℕ) (d : Q) → n < length (qs ++ q ∷ []) → most ≤ room (slice_index_or (qs ++ q ∷ []) n d)
room_more room most qs q all one n d lt = pushed_at (λ _ x. most ≤ room x) (length qs) qs q refl all one n d (omega (arith, lt, length-append qs (q ∷ [])))

-- all bins are opened
pub opened_pushed : (frame : BatchedFrame) (number : TableId) (n : ℕ) (ids : List TableId) (ps : List QueueToken) (ts : List Tasking) → n ≡ bin_count_of frame.cut → AreOpenedTo frame number n ids ps ts → HavePushed frame 0 0 ps
opened_pushed frame number n ids ps ts e at = let count = at.count in record {
  count = count ∙ e;
  more = λ b d bl lt. absurd (omega (arith, lt));
  left = λ b d bl le. at.pushed b d (omega (arith, bl, count));
  free = λ b d bl. at.free b d (omega (arith, bl, count));
}

pub opened_tasks : (queues : QueuesOf) (frame : BatchedFrame) (n : ℕ) (ps : List QueueToken) (ts : List Tasking) → n ≡ bin_count_of frame.cut → AreOpenedTo frame queues.number n queues.queues ps ts → AreFirstTasks queues frame ts
opened_tasks queues frame n ps ts e at = let tasks = at.tasks in record {
  count = tasks ∙ e;
  of = λ b d lt.
      let h = at.first b d (omega (arith, lt, tasks)) in
      record {
        queue = subst (λ k. IsAt queues.queues k (slice_index_or ts b d).queue) (sym (ap (λ (w : Tasking). w.of.bin) h)) (at.own b d (omega (arith, lt, tasks)));
        number = ap (λ (w : Tasking). w.number) h;
      };
  first = λ b d lt.
      let h = at.first b d (omega (arith, lt, tasks)) in
      h ∙ ap (λ z. first_task (slice_index_or ts b d).queue z (bin_of_frame frame b)) (sym (ap (λ (w : Tasking). w.number) h));
}

-- Plain tasks that wait, and the tiles of a task that drew all batches.
use Rattle.std.proofs.Common.{◌≡◌, ℕ, ◌*◌, ◌≤◌, min, None, Some, length, arith, ap, sym, subst, ◌∙◌}
use Rattle.std.specs.declared.option.Option.{Option}
use Rattle.binning.specs.Bins.{bin_span_of}
use Rattle.masked_update.specs.Canvas.{CanvasOf}
use Rattle.bin_tiles.specs.Plain.{IsPlainAt, StandsPlain}
use Rattle.bin_queues.specs.QueueParts.{BatchedFrame, BinOfFrame, batches_in, bin_of_frame, places_before}
use Rattle.bin_tasks.specs.Drains.{StandsAtBatches}
use Rattle.bin_queues.specs.Tasks.{IsTaskOf, QueuesOf, Tasking, first_task}
use Rattle.plain_turns.specs.Waiting.{IsPlainTask, IsWaitingTask, MayBegin}
use Rattle.bin_tasks.specs.declared.task.Task.{Task}
use Rattle.bin_queues.proofs.Intaking.{places_end}

same_some : {X : Type 0} (x y : X) → ◌≡◌ {A = Option X} (Some x) (Some y) → x ≡ y
same_some x y same = cc

-- a task with its tiles, as it is put back
pub begins_again : (queues : QueuesOf) (frame : BatchedFrame) (t : Task CanvasOf) (u : Task (Option CanvasOf)) → u.intake ≡ t.intake → u.keeper ≡ Some t.keeper → IsPlainTask queues frame t → MayBegin queues frame u
begins_again queues frame t u intake keeper at =
    let here : MayBegin queues frame (record { intake = t.intake; keeper = Some t.keeper }) = record {
      frame_is = at.frame_is;
      queues_are = at.queues_are;
      at = record {
        not_made = λ no. absurd cc;
        made = λ d is. subst (λ (c : CanvasOf). StandsAtBatches StandsPlain (tt {0}) t.intake c) (same_some t.keeper d is) at.at;
      };
    } in
    subst (λ (x : Tasking × Option CanvasOf). MayBegin queues frame (record { intake = x.0; keeper = x.1 })) (λ i. (sym intake i, sym keeper i)) here

-- a bin's task before its tiles are made
pub first_waiting : (queues : QueuesOf) (frame : BatchedFrame) (bin : ℕ) (t : Tasking) → IsTaskOf queues t → t ≡ first_task t.queue t.number (bin_of_frame frame bin) → IsWaitingTask queues frame bin (record { intake = t; keeper = None })
first_waiting queues frame bin t of first =
    let none : places_before frame 0 ≡ 0 = (let e : min (0 * frame.size) (length frame.list.members) ≡ 0 = omega arith in e) in
    let named = ap (λ (k : Tasking). k.of) first in
    let batches = ap (λ (k : Tasking). k.batches) first in
    record {
      task = record {
        frame_is = ap (λ (b : BinOfFrame). b.frame) named;
        queues_are = of;
        at = record {
          not_made = λ is. ap (λ (b : BinOfFrame). places_before b.frame t.batches) named ∙ ap (places_before frame) batches ∙ none;
          made = λ d is. absurd cc;
        };
      };
      bin_is = ap (λ (b : BinOfFrame). b.bin) named;
    }

-- the tiles of a task that drew all batches stand at the whole list
pub whole_list : (queues : QueuesOf) (frame : BatchedFrame) (bin : ℕ) (t : Task CanvasOf) → 1 ≤ frame.size → t.intake.of.bin ≡ bin → t.intake.batches ≡ batches_in t.intake.of.frame → IsPlainTask queues frame t
    → IsPlainAt frame.list (bin_span_of frame.list.size frame.cut bin) (length frame.list.members) t.keeper
whole_list queues frame bin t some of whole at =
    let named : t.intake.of ≡ bin_of_frame frame bin = λ i. record { frame = at.frame_is i; bin = of i } in
    let all : t.intake.batches ≡ batches_in frame = whole ∙ ap batches_in at.frame_is in
    let placed : IsPlainAt frame.list (bin_span_of frame.list.size frame.cut bin) (places_before frame t.intake.batches) t.keeper = subst (λ (b : BinOfFrame). IsPlainAt b.frame.list (bin_span_of b.frame.list.size b.frame.cut b.bin) (places_before b.frame t.intake.batches) t.keeper) named at.at in
    subst (λ n. IsPlainAt frame.list (bin_span_of frame.list.size frame.cut bin) n t.keeper) (ap (places_before frame) all ∙ places_end frame some) placed

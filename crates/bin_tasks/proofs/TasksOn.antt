-- Tasks of a frame's bins as they are told, and as they draw a part.
use Rattle.std.proofs.Common.{◌≡◌, ℕ, max, arith, ap, ◌∙◌, sym, subst}
use Rattle.binning.specs.Cut.{CutOf}
use Rattle.cull_base.specs.Tiles.{PieceList}
use Rattle.cull_base.specs.declared.tile_span.TileSpan.{TileSpan}
use Rattle.bin_queues.specs.QueueParts.{BatchedFrame, BinOfFrame, batches_in, places_before, taken_before}
use Rattle.bin_queues.specs.Tasks.{GoesOn, QueuesOf, Tasking, after_part}
use Rattle.bin_queues.proofs.GoingOn.{task_of}
use Rattle.bin_tiles.specs.Bins.{drawn_of}
use Rattle.bin_tasks.specs.Drains.{HasDrained, IsAnswer, IsTaskIn, StandsAtBatches, WasTold}
use Rattle.bin_tasks.specs.declared.task.Drained.{Drained}
use Rattle.bin_tasks.specs.declared.task.Drained.TheVariants.{Whole, Empty}
use Rattle.bin_tasks.specs.declared.task.Task.{Task}

module _ {X B : Type 0} (stands : X → B → PieceList → TileSpan → ℕ → Type 0) (beside : B) (queues : QueuesOf) (frame : BatchedFrame) (t t' : Task X) where
  pub told_in : (batches : ℕ) → IsTaskIn stands beside queues frame t → t'.intake ≡ record t.intake { told = max t.intake.told batches } → t'.keeper ≡ t.keeper → IsTaskIn stands beside queues frame t'
  told_in batches at after kept =
      let of : t'.intake.of ≡ t.intake.of = ap (λ (k : Tasking). k.of) after in
      record {
        frame_is = ap (λ (b : BinOfFrame). b.frame) of ∙ at.frame_is;
        queues_are = task_of queues t.intake t'.intake (ap (λ (k : Tasking). k.queue) after) (ap (λ (k : Tasking). k.number) after) of at.queues_are;
        at = subst (λ (x : Tasking × X). StandsAtBatches stands beside x.0 x.1) (λ i. (sym after i, sym kept i)) at.at;
      }

pub was_told : (batches : ℕ) (t t' : Tasking) → t' ≡ record t { told = max t.told batches } → WasTold batches t t'
was_told batches t t' after =
    let most : t'.told ≡ max t.told batches = ap (λ (k : Tasking). k.told) after in
    record { of = ap (λ (k : Tasking). k.of) after; told = omega (arith, most) }

-- a task that was told of all batches has drawn them all when it ends
pub has_drained : (d : Drained) (t t' : Tasking) → GoesOn t t' → IsAnswer d t t' → HasDrained t t'
has_drained Whole t t' on answer = record { on = on; whole = λ all. answer }
has_drained Empty t t' on answer =
    let same : batches_in t'.of.frame ≡ batches_in t.of.frame = ap (λ (b : BinOfFrame). batches_in b.frame) on.of in
    let short = answer.short in
    let told = answer.told in
    let kept = on.told in
    record { on = on; whole = λ all. absurd (omega (arith, same, short, told, kept, all)) }

pub goes_on : (a b c : Tasking) → GoesOn a b → GoesOn b c → GoesOn a c
goes_on a b c one two =
    let batches = one.batches in
    let more = two.batches in
    let looks = one.looks in
    let again = two.looks in
    record {
      queue = two.queue ∙ one.queue;
      number = two.number ∙ one.number;
      of = two.of ∙ one.of;
      told = two.told ∙ one.told;
      batches = omega (arith, batches, more);
      looks = omega (arith, looks, again);
    }

-- a task that went on, and then drew all batches where it was told of all
pub drained_on : (a b c : Tasking) → GoesOn a b → HasDrained b c → HasDrained a c
drained_on a b c one two = record {
  on = goes_on a b c one two.on;
  whole = λ all.
      let same : batches_in b.of.frame ≡ batches_in a.of.frame = ap (λ (k : BinOfFrame). batches_in k.frame) one.of in
      let told = one.told in
      two.whole (omega (arith, same, told, all));
}

-- what it drew before the part
pub taken_drawn : (t t' : Tasking) (list : PieceList) (cut : CutOf) (batch from taken bin : ℕ) → t' ≡ after_part t → t.of.frame.list ≡ list → cut ≡ t'.of.frame.cut → batch ≡ t.batches → from ≡ places_before t.of.frame batch → bin ≡ t.of.bin
    → taken ≡ taken_before t.of t.batches → taken ≡ drawn_of list cut from bin
taken_drawn t t' list cut batch from taken bin after of_list of_cut counted at of_bin sum =
    let cuts : t.of.frame.cut ≡ cut = sym (of_cut ∙ ap (λ (w : Tasking). w.of.frame.cut) after) in
    let first : places_before t.of.frame t.batches ≡ from = sym (at ∙ ap (places_before t.of.frame) counted) in
    sum ∙ (λ i. drawn_of (of_list i) (cuts i) (first i) (sym of_bin i))

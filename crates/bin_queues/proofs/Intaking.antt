-- A task that takes in one part more.
use Rattle.std.proofs.Common.{◌≡◌, ℕ, zero, suc, ◌+◌, ◌*◌, ◌<◌, ◌≤◌, List, [], ◌∷◌, length, Bool, true, false, cond, arith, refl, ap, ◌∙◌, sym, subst}
use Rattle.std.proofs.lemmas.List.{length-append}
use Rattle.crossbeam_queue.specs.Passes.{view, IsSamePass}
use Rattle.cull_base.specs.Piece.{Piece}
use Rattle.cull_base.specs.Tiles.{PieceList}
use Rattle.cull_base.specs.declared.rect.Rect.{Rect}
use Rattle.binning.specs.Bins.{bin_rect_of}
use Rattle.binning.specs.Cut.{CutOf, bin_count_of}
use Rattle.binning.specs.Parts.{PartOf, indices_in}
use Rattle.binning.specs.Places.{meets_at, places_in}
use Rattle.binning.proofs.Laws.{batch_begins, batches_end}
use Rattle.binning.proofs.Places.{places_in-nil, places_in-next, places_in-append}
use Rattle.bin_queues.specs.declared.queue_rule.View.{View}
use Rattle.crossbeam_utils.specs.Seq.{cell_view}
use Rattle.bin_queues.specs.NumberRule.{listener, IsListener}
use Rattle.bin_queues.specs.QueueParts.{BinOfFrame, BatchedFrame, IsBatched, batches_in, nth_part, places_before, taken_before}
use Rattle.bin_queues.specs.QueueRule.{taker, Popped, IsTaker}
use Rattle.bin_queues.specs.Tasks.{Tasking, after_part}
use Rattle.bin_queues.specs.Intakes.{QueueToken, NumberToken, tasking, IsIntake}

-- no more places than there are
places_within : (rect : Rect) (members : List Piece) (n : ℕ) → length (places_in rect members 0 n) ≤ n
places_within rect members zero = let e : length (places_in rect members 0 0) ≡ 0 = ap length (places_in-nil rect members 0) in omega (arith, e)
places_within rect members (suc n) =
    let next = places_in-next rect members 0 n (omega arith) in
    let one = at_most_one (meets_at rect members n) n in
    let more : length (places_in rect members 0 (n + 1)) ≡ length (places_in rect members 0 n) + length (cond (meets_at rect members n) (n ∷ []) []) = ap length next ∙ length-append (places_in rect members 0 n) (cond (meets_at rect members n) (n ∷ []) []) in
    let rest = places_within rect members n in
    let e : suc n ≡ n + 1 = omega arith in
    subst (λ k. length (places_in rect members 0 k) ≤ k) (sym e) (omega (arith, more, one, rest))
  where
    at_most_one : (b : Bool) (k : ℕ) → length (cond b (k ∷ []) []) ≤ 1
    at_most_one true k = omega arith
    at_most_one false k = omega arith

pub taken_within : (b : BinOfFrame) (q : ℕ) → taken_before b q ≤ length b.frame.list.members
taken_within b q =
    let le = places_within (bin_rect_of b.frame.list.size b.frame.cut b.bin) b.frame.list.members (places_before b.frame q) in
    omega (arith, le)

-- where a batch begins
pub place_of_batch : (frame : BatchedFrame) (q : ℕ) → 0 < frame.size → q < batches_in frame → places_before frame q ≡ q * frame.size
place_of_batch frame q some lt = let below = batch_begins (length frame.list.members) frame.size q some lt in omega (arith, below)

pub places_rise : (frame : BatchedFrame) (q : ℕ) → places_before frame q ≤ places_before frame (q + 1)
places_rise frame q = let more : (q + 1) * frame.size ≡ q * frame.size + frame.size = omega arith in omega (arith, more)

-- all batches have the whole list
pub places_end : (frame : BatchedFrame) → 1 ≤ frame.size → places_before frame (batches_in frame) ≡ length frame.list.members
places_end frame some = batches_end (length frame.list.members) frame.size (omega (arith, some))

-- part q has the places of its batch that meet the bin
pub part_places : (b : BinOfFrame) (q : ℕ) → 0 < b.frame.size → q < batches_in b.frame
    → (nth_part b q).indices ≡ indices_in b.frame.list b.frame.cut (places_before b.frame q) (places_before b.frame (q + 1)) b.bin
part_places b q some lt = ap (λ k. indices_in b.frame.list b.frame.cut k (places_before b.frame (q + 1)) b.bin) (sym (place_of_batch b.frame q some lt))

pub taken_more : (b : BinOfFrame) (q : ℕ) → 0 < b.frame.size → q < batches_in b.frame → taken_before b (q + 1) ≡ taken_before b q + length (nth_part b q).indices
taken_more b q some lt =
    let rect = bin_rect_of b.frame.list.size b.frame.cut b.bin in
    let from = places_before b.frame q in
    let to = places_before b.frame (q + 1) in
    ap length (places_in-append rect b.frame.list.members 0 from to (omega arith) (places_rise b.frame q))
    ∙ length-append (places_in rect b.frame.list.members 0 from) (places_in rect b.frame.list.members from to)
    ∙ ap (λ (l : List ℕ). taken_before b q + length l) (sym (part_places b q some lt))

-- what a pop tells of the task
pub record TakesNext (cut : CutOf) (size bin batches taken : ℕ) (p p' : QueueToken) (n : NumberToken) (x : PartOf) : Type 0 where
  pub short : (view p).number < batches_in (view p).of.frame
  pub is : x ≡ nth_part (view p).of (view p).number
  pub sum : taken + length x.indices ≡ taken_before (view p).of (batches + 1)
  pub within : taken + length x.indices ≤ 131072
  pub intake : IsIntake cut size bin (batches + 1) (taken + length x.indices) p' n
  pub after : tasking (taken + length x.indices) p' n ≡ after_part (tasking taken p n)

pub takes_next : (cut : CutOf) (size bin batches taken : ℕ) (p p' : QueueToken) (n : NumberToken) (x : PartOf) → IsIntake cut size bin batches taken p n → IsSamePass p p' → Popped (view p) x (view p') → TakesNext cut size bin batches taken p p' n x
takes_next cut size bin batches taken p p' n x at same pop =
    let v = view p in
    let of : (view p').of ≡ v.of = ap (λ (w : View). w.of) pop.view in
    let number : (view p').number ≡ v.number + 1 = ap (λ (w : View). w.number) pop.view in
    let told : (view p').told ≡ v.told = ap (λ (w : View). w.told) pop.view in
    let counted : batches ≡ v.number = at.batches_is in
    let lt : batches < batches_in v.of.frame = subst (λ k. k < batches_in v.of.frame) (sym counted) pop.short in
    let some : 0 < v.of.frame.size = let s = at.batched.some in omega (arith, s) in
    let is : x ≡ nth_part v.of batches = pop.next ∙ ap (nth_part v.of) (sym counted) in
    let sum : taken + length x.indices ≡ taken_before v.of (batches + 1) =
    (λ i. at.taken_is i + length (is i).indices) ∙ sym (taken_more v.of batches some lt) in
    let upto = taken_within v.of (batches + 1) in
    let few = at.batched.short in
    record {
      short = pop.short;
      is = pop.next;
      sum = sum;
      within = omega (arith, sum, upto, few);
      intake = record {
        takes = subst IsTaker (sym pop.view) refl;
        free = same.2 ∙ at.free;
        listens = at.listens;
        batched = rw of at.batched;
        real = rw of at.real;
        cut_is = at.cut_is ∙ ap (λ (b : BinOfFrame). b.frame.cut) (sym of);
        size_is = at.size_is ∙ ap (λ (b : BinOfFrame). b.frame.size) (sym of);
        bin_is = at.bin_is ∙ ap (λ (b : BinOfFrame). b.bin) (sym of);
        batches_is = ap (λ k. k + 1) counted ∙ sym number;
        within = rw of (omega (arith, lt));
        taken_is = sum ∙ ap (λ (b : BinOfFrame). taken_before b (batches + 1)) (sym of);
      };
      after = λ i. record {
        queue = same.0 i;
        number = n.table_id;
        of = of i;
        batches = number i;
        taken = (sum ∙ ap (λ k. taken_before v.of (k + 1)) counted) i;
        told = told i;
        heard = (tasking taken p n).heard;
        looks = (tasking taken p n).looks;
      };
    }

taken_none : (b : BinOfFrame) → taken_before b 0 ≡ 0
taken_none b =
    let e : places_before b.frame 0 ≡ 0 = omega arith in
    ap (λ k. length (indices_in b.frame.list b.frame.cut 0 k b.bin)) e ∙ ap length (places_in-nil (bin_rect_of b.frame.list.size b.frame.cut b.bin) b.frame.list.members 0)

-- the passes of a task before the first batch
pub first_intake : (cut : CutOf) (size bin : ℕ) (p : QueueToken) (n : NumberToken) → view p ≡ taker (view p).of 0 0 → p.me.1 ≡ [] → cell_view n ≡ listener 0 0 → IsBatched (view p).of.frame
    → (view p).of.bin < bin_count_of (view p).of.frame.cut → cut ≡ (view p).of.frame.cut → size ≡ (view p).of.frame.size → bin ≡ (view p).of.bin → IsIntake cut size bin 0 0 p n
first_intake cut size bin p n takes free listens batched real cut_is size_is bin_is = record {
  takes = subst IsTaker (sym takes) refl;
  free = free;
  listens = subst IsListener (sym listens) refl;
  batched = batched;
  real = real;
  cut_is = cut_is;
  size_is = size_is;
  bin_is = bin_is;
  batches_is = sym (ap (λ (v : View). v.number) takes);
  within = omega arith;
  taken_is = sym (taken_none (view p).of);
}

-- the places of the part that a task took in, and how many members it has then
pub next_places : (t t' : Tasking) (x : PartOf) (indices : List ℕ) (list : PieceList) (cut : CutOf) (batch from to bin : ℕ) → 0 < t.of.frame.size → t' ≡ after_part t → x ≡ nth_part t.of t.batches → t.batches < batches_in t.of.frame
    → indices ≡ x.indices → t.of.frame.list ≡ list → cut ≡ t'.of.frame.cut → batch ≡ t.batches → from ≡ places_before t.of.frame batch → to ≡ places_before t'.of.frame (batch + 1) → bin ≡ t.of.bin
    → indices ≡ indices_in list cut from to bin
next_places t t' x indices list cut batch from to bin some after is lt same of_list of_cut counted at upto of_bin =
    let cuts : t.of.frame.cut ≡ cut = sym (of_cut ∙ ap (λ (w : Tasking). w.of.frame.cut) after) in
    let first : places_before t.of.frame t.batches ≡ from = sym (at ∙ ap (places_before t.of.frame) counted) in
    let last : places_before t.of.frame (t.batches + 1) ≡ to = sym (upto ∙ (λ i. places_before (after i).of.frame (counted i + 1))) in
    same ∙ ap (λ (p : PartOf). p.indices) is ∙ part_places t.of t.batches some lt ∙ (λ i. indices_in (of_list i) (cuts i) (first i) (last i) (sym of_bin i))

-- Tasks that change, worker by worker, until all batches are drawn.
use Rattle.std.proofs.Common.{◌≡◌, ℕ, ◌+◌, ◌-◌, ◌*◌, ◌≤◌, inl, inr, List, length, get_or, All, ◌++◌, arith, refl, ap, sym, subst, ◌∙◌}
use Rattle.std.proofs.lemmas.Bool.{cases_lt}
use Rattle.std.proofs.lemmas.List.{get_or_append_left, get_or-append_right, length-append}
use Rattle.bin_queues.specs.QueueParts.{BatchedFrame, BinOfFrame, batches_in}
use Rattle.bin_queues.specs.Tasks.{QueuesOf, Tasking}
use Rattle.bin_tasks.specs.Drains.{HasDrained, WasTold}
use Rattle.bin_tasks.proofs.TasksOn.{drained_on}
use Rattle.side_by_side.proofs.Parts.{both_parts, first_part as first_of_both, second_part as second_of_both}
use Rattle.tile_queues.specs.Shares.{AreAllIn, AreChanged, AreChangedIn, AreDrained, AreShares, IsDrawnAt, IsTaskAt, IsTaskOver}
use Rattle.tile_queues.specs.declared.share.Share.{Share}
use Rattle.tile_queues.proofs.Turning.{IsTurnedTo}

pub changed_on : (xs ys zs : List (Tasking)) → AreChanged HasDrained xs ys → AreChanged HasDrained ys zs → AreChanged HasDrained xs zs
changed_on xs ys zs one two =
    let count = one.count in
    record {
      count = two.count ∙ count;
      each = λ j t lt. drained_on (get_or xs j t) (get_or ys j t) (get_or zs j t) (one.each j t lt).on (two.each j t (omega (arith, lt, count)));
    }

pub turned : (P : Tasking → Type 0) (R : Tasking → Tasking → Type 0) (old new : List (Tasking)) (n : ℕ) → length old ≤ n → IsTurnedTo P R old new n → AreChanged R old new
turned P R old new n le at = record { count = at.count; each = λ j t lt. at.done j t (omega (arith, le, lt)) }

-- what holds of all holds of both parts, and the other way round
pub first_part : (P : Tasking → Type 0) (all xs ys : List (Tasking)) → all ≡ xs ++ ys → All P all → All P xs
first_part P all xs ys is each k d lt = first_of_both 0 all xs ys is (λ _ x. P x) each k d lt

pub second_part : (P : Tasking → Type 0) (all xs ys : List (Tasking)) → all ≡ xs ++ ys → All P all → All P ys
second_part P all xs ys is each k d lt = second_of_both 0 all xs ys is (λ _ x. P x) (length xs) (omega arith) each k d lt

pub all_parts : (P : Tasking → Type 0) (xs ys : List (Tasking)) → All P xs → All P ys → All P (xs ++ ys)
all_parts P xs ys one two = λ k d lt. elim (cases_lt k (length xs)) [
  | inl before ↦ subst P (sym (get_or_append_left xs ys d k before)) (one k d before)
  | inr after ↦ subst P (sym (get_or-append_right xs ys (length xs) k d refl after)) (two (k - length xs) d (omega (arith, lt, after, length-append xs ys)))
]

-- what is changed in two parts
pub changed_parts : (R : Tasking → Tasking → Type 0) (all xs ys xs' ys' : List (Tasking)) → all ≡ xs ++ ys → AreChanged R xs xs' → AreChanged R ys ys' → AreChanged R all (xs' ++ ys')
changed_parts R all xs ys xs' ys' is one two =
    let few = one.count in
    let rest = two.count in
    let whole = ap length is in
    let both = both_parts (λ _ a b. R a b) 0 (length xs) all xs ys xs' ys' is few (omega arith) (record { each = one.each }) (record { each = two.each }) in
    record {
      count = omega (arith, few, rest, whole, length-append xs ys, length-append xs' ys');
      each = both.each;
    }

module _ (queues : QueuesOf) (frame : BatchedFrame) (workers : ℕ) where
  pub all_may : (shares : List Share) → AreShares queues frame workers shares → AreAllIn (IsTaskOver queues frame) shares
  all_may shares at w s lt = λ j t below. let task = (at.each w s lt).each j t below in record { of = task.queues_are; frame_is = ap (λ (k : BinOfFrame). k.frame) task.of_is }

  -- drained, told of all and drained again
  drawn : (n bin : ℕ) (a b c d : Tasking) → batches_in frame ≤ n → IsTaskAt queues frame bin a → HasDrained a b → WasTold n b c → IsTaskOver queues frame c → HasDrained c d → IsTaskOver queues frame d → IsDrawnAt queues frame bin d
  drawn n bin a b c d all at one told ours two last =
      let same : batches_in c.of.frame ≡ batches_in frame = ap batches_in ours.frame_is in
      let heard = told.told in
      record {
        at = record { queues_are = last.of; of_is = two.on.of ∙ told.of ∙ one.on.of ∙ at.of_is };
        whole = two.whole (omega (arith, same, heard, all)) ∙ ap batches_in last.frame_is;
      }

  pub all_drawn : (n : ℕ) (old one told new : List Share) → batches_in frame ≤ n → AreShares queues frame workers old → AreChangedIn HasDrained old one → AreChangedIn (WasTold n) one told
      → AreAllIn (IsTaskOver queues frame) told → AreChangedIn HasDrained told new → AreAllIn (IsTaskOver queues frame) new → AreDrained queues frame workers new
  all_drawn n old one told new all at first heard ours last may =
      let c0 = at.count in
      let c1 = first.count in
      let c2 = heard.count in
      let c3 = last.count in
      record {
        some = at.some;
        count = c3 ∙ c2 ∙ c1 ∙ c0;
        each = λ w s lt.
            let share = at.each w s (omega (arith, lt, c1, c2, c3)) in
            let a = first.each w s (omega (arith, lt, c1, c2, c3)) in
            let b = heard.each w s (omega (arith, lt, c2, c3)) in
            let c = last.each w s (omega (arith, lt, c3)) in
            let n0 = share.count in
            let n1 = a.count in
            let n2 = b.count in
            let n3 = c.count in
            record {
              count = n3 ∙ n2 ∙ n1 ∙ n0;
              each = λ j t below. drawn n (j * workers + w) (get_or (get_or old w s).tasks.items j t) (get_or (get_or one w s).tasks.items j t) (get_or (get_or told w s).tasks.items j t) (get_or (get_or new w s).tasks.items j t) all
                  (share.each j t (omega (arith, below, n1, n2, n3))) (a.each j t (omega (arith, below, n1, n2, n3))) (b.each j t (omega (arith, below, n2, n3)))
                  (ours w s (omega (arith, lt, c3)) j t (omega (arith, below, n3))) (c.each j t (omega (arith, below, n3))) (may w s lt j t below);
            };
      }

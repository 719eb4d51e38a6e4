-- Tasks are dealt to workers bin by bin.
use Rattle.std.proofs.Common.{◌≡◌, ℕ, ◌+◌, ◌-◌, ◌*◌, ◌/◌, ◌%◌, ◌<◌, ◌≤◌, List, [], ◌∷◌, ◌++◌, inl, inr, length, get_or, arith, ap, ◌∙◌, sym, subst}
use Rattle.std.proofs.Math.Nat.{le-div_iff_mul-le}
use Rattle.std.proofs.lemmas.Bool.{cases_lt, cases_order}
use Rattle.std.proofs.lemmas.List.{get_or_push, length-append}
use Rattle.std.proofs.lemmas.Nat.{div-add-mod', mod_below}
use Rattle.tile_queues.specs.Shares.{bins_owned, AreDealt, AreFirstShares, AreIdle, AreShares, IsFirstAt, IsGiven, IsShare}
use Rattle.binning.specs.Cut.{bin_count_of}
use Rattle.tile_queues.specs.declared.share.Share.{Share}
use Rattle.bin_queues.specs.QueueParts.{BatchedFrame, bin_of_frame}
use Rattle.bin_queues.specs.Tasks.{AreFirstTasks, QueuesOf, Tasking, first_task}
use Rattle.bin_tiles.proofs.Lists.{pushed_at}

-- one element of a list that has some
pub one_of : {X : Type 0} (xs : List X) (n : ℕ) → n < length xs → X
one_of [] n h = absurd (omega (arith, h))
one_of (x ∷ xs) n h = x

one_more : (q w : ℕ) → (q + 1) * w ≡ q * w + w
one_more q w = omega arith

-- a quotient between two multiples
quotient_is : (n w q : ℕ) → 0 < w → q * w ≤ n → n < q * w + w → n / w ≡ q
quotient_is n w q some le lt =
    let least : q ≤ n / w = (le-div_iff_mul-le some).1 le in
    elim (cases_lt (n / w) (q + 1)) [
      | inl below ↦ omega (arith, least, below)
      | inr above ↦ (let m : (q + 1) * w ≤ n = (le-div_iff_mul-le some).0 (omega (arith, above)) in absurd (omega (arith, m, lt, one_more q w)))
    ]

module _ (n w : ℕ) (some : 0 < w) where
  -- the worker to which bin n belongs has the bins before it that are its own
  pub owned_before : bins_owned n w (n % w) ≡ n / w
  owned_before =
      let is = div-add-mod' n w in
      let below = mod_below n w some in
      quotient_is (n + w - 1 - n % w) w (n / w) some (omega (arith, is, below)) (omega (arith, is, below))

  -- and then one more
  pub owned_with : bins_owned (n + 1) w (n % w) ≡ n / w + 1
  owned_with =
      let is = div-add-mod' n w in
      let below = mod_below n w some in
      let more = one_more (n / w) w in
      quotient_is (n + 1 + w - 1 - n % w) w (n / w + 1) some (omega (arith, is, below, more)) (omega (arith, is, below, more))

  -- the other workers have as many as before
  pub owned_same : (v : ℕ) → v < w → (v ≡ n % w → ⊥) → bins_owned (n + 1) w v ≡ bins_owned n w v
  owned_same v lt ne =
      let is = div-add-mod' n w in
      let below = mod_below n w some in
      let more = one_more (n / w) w in
      elim (cases_order v (n % w)) [
        | inl same ↦ absurd (ne same)
        | inr other ↦ elim other [
          | inl before ↦
              quotient_is (n + 1 + w - 1 - v) w (n / w + 1) some (omega (arith, is, below, more, before)) (omega (arith, is, below, more, before))
              ∙ sym (quotient_is (n + w - 1 - v) w (n / w + 1) some (omega (arith, is, below, more, before)) (omega (arith, is, below, more, before)))
          | inr after ↦
              quotient_is (n + 1 + w - 1 - v) w (n / w) some (omega (arith, is, below, after, lt)) (omega (arith, is, below, after, lt))
              ∙ sym (quotient_is (n + w - 1 - v) w (n / w) some (omega (arith, is, below, after, lt)) (omega (arith, is, below, after, lt)))
        ]
      ]

-- no bin, no task
pub dealt_none : (P : ℕ → Tasking → Type 0) (workers : ℕ) (shares : List (Share)) → 0 < workers → AreIdle workers shares → AreDealt P workers 0 shares
dealt_none P workers shares some idle = record {
  some = some;
  count = idle.count;
  each = λ w s lt.
      let none : length (get_or shares w s).tasks.items ≡ 0 = ap length (idle.none w s lt) in
      let count = idle.count in
      record {
        count = none ∙ sym (quotient_is (0 + workers - 1 - w) workers 0 some (omega arith) (omega (arith, lt, count, some)));
        each = λ j t jl. absurd (omega (arith, jl, none));
      };
}

module _ (P : ℕ → Tasking → Type 0) (workers n : ℕ) (some : 0 < workers) (task : Tasking) where
  share_as : (worker bins other : ℕ) (one two : List (Tasking)) → bins_owned other workers worker ≡ bins_owned bins workers worker → two ≡ one → IsShare P workers bins worker one → IsShare P workers other worker two
  share_as worker bins other one two same is at = subst (IsShare P workers other worker) (sym is) (record { count = at.count ∙ sym same; each = at.each })

  -- the next bin's task is given to its worker
  pub dealt_more : (old new : List (Share)) → IsGiven (n % workers) task old new → AreDealt P workers n old → P n task → AreDealt P workers (n + 1) new
  dealt_more old new given at holds = record {
    some = some;
    count = given.whole ∙ at.count;
    each = λ w s lt.
        let count = at.count in
        let whole = given.whole in
        let share = at.each w s (omega (arith, lt, whole)) in
        let other : (w ≡ n % workers → ⊥) → IsShare P workers (n + 1) w (get_or new w s).tasks.items = λ ne.
        share_as w n (n + 1) (get_or old w s).tasks.items (get_or new w s).tasks.items (owned_same n workers some w (omega (arith, lt, whole, count)) ne) (ap (λ (x : Share). x.tasks.items) (given.others w s ne)) share in
        elim (cases_order w (n % workers)) [
          | inl here ↦
              let owned : IsShare P workers n (n % workers) (get_or old (n % workers) s).tasks.items = subst (λ v. IsShare P workers n v (get_or old v s).tasks.items) here share in
              subst (λ v. IsShare P workers (n + 1) v (get_or new v s).tasks.items) (sym here) (given_share (get_or old (n % workers) s).tasks.items (get_or new (n % workers) s).tasks.items owned (given.here s) holds)
          | inr apart ↦ elim apart [
            | inl before ↦ other (λ e. absurd (omega (arith, before, e)))
            | inr after ↦ other (λ e. absurd (omega (arith, after, e)))
          ]
        ];
  }
    where
      given_share : (one two : List (Tasking)) → IsShare P workers n (n % workers) one → two ≡ one ++ (task ∷ []) → P n task → IsShare P workers (n + 1) (n % workers) two
      given_share one two share is holds =
          let long : length one ≡ n / workers = share.count ∙ owned_before n workers some in
          let last : P (n / workers * workers + n % workers) task = subst (λ k. P k task) (sym (div-add-mod' n workers)) holds in
          subst (IsShare P workers (n + 1) (n % workers)) (sym is) (record {
            count = length-append one (task ∷ []) ∙ ap (λ k. k + 1) long ∙ sym (owned_with n workers some);
            each = λ j t lt. (let more = length-append one (task ∷ []) in
                pushed_at (λ i (x : Tasking). P (i * workers + n % workers) x) (n / workers) one task long (λ i d below. share.each i d (omega (arith, below, long))) last j t (omega (arith, lt, more, long)));
          })

-- tasks before the first batch are those of the frame
pub dealt_first : (queues : QueuesOf) (frame : BatchedFrame) (workers : ℕ) (shares : List Share) → AreFirstShares queues frame workers shares → AreShares queues frame (length shares) shares
dealt_first queues frame workers shares first = subst (λ n. AreShares queues frame n shares) (sym first.count) (record {
  some = first.some;
  count = first.count;
  each = λ w s lt.
      let share = first.each w s lt in
      record {
        count = share.count;
        each = λ j t jl. let at = share.each j t jl in record { queues_are = at.queues_are; of_is = ap (λ (k : Tasking). k.of) at.first };
      };
})

-- a sole worker has the tasks of all bins, in order
pub sole_first : (queues : QueuesOf) (frame : BatchedFrame) (shares rest : List Share) (s : Share) → AreFirstShares queues frame 1 shares → shares ≡ rest ++ s ∷ [] → AreFirstTasks queues frame s.tasks.items
sole_first queues frame shares rest s first is =
    let bins = bin_count_of frame.cut in
    let count = first.count in
    let whole = ap length is ∙ length-append rest (s ∷ []) in
    let none : length rest ≡ 0 = omega (arith, count, whole) in
    let here : get_or shares 0 s ≡ s = ap (λ (xs : List Share). get_or xs 0 s) is ∙ get_or_push rest s s 0 none in
    let share : IsShare (IsFirstAt queues frame) 1 bins 0 s.tasks.items = subst (λ (x : Share). IsShare (IsFirstAt queues frame) 1 bins 0 x.tasks.items) here (first.each 0 s (omega (arith, count))) in
    let all : bins_owned bins 1 0 ≡ bins = quotient_is (bins + 1 - 1 - 0) 1 bins (omega arith) (omega arith) (omega arith) in
    record {
      count = share.count ∙ all;
      of = λ b d lt. (share.each b d lt).queues_are;
      first = λ b d lt. subst (λ n. let t = get_or s.tasks.items b d in t ≡ first_task t.queue t.number (bin_of_frame frame n)) (let e : b * 1 + 0 ≡ b = omega arith in e) (share.each b d lt).first;
    }

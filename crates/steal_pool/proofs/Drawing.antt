-- What workers drew.
use Rattle.std.proofs.Common.{◌≡◌, ℕ, ◌+◌, ◌≤◌, ◌<◌, All, List, [], ◌∷◌, ◌++◌, length, sym, ap, ◌∙◌, subst, length-append, arith}
use Rattle.std.proofs.lemmas.List.Elements.{All-push}
use Rattle.bin_queues.specs.QueueParts.{BinOfFrame, batches_in}
use Rattle.bin_queues.specs.Tasks.{GoesOn, Tasking}
use Rattle.bin_queues.proofs.GoingOn.{still_of}
use Rattle.bin_tasks.specs.Drains.{IsAnswer}
use Rattle.bin_tasks.specs.declared.task.Drained.{Drained}
use Rattle.bin_tasks.specs.declared.task.Drained.TheVariants.{Whole}
use Rattle.steal_pool.specs.declared.deque_rule.Call.{Call}
use Rattle.steal_pool.specs.declared.deque_rule.View.{View}
use Rattle.steal_pool.specs.DequeRule.{with_taken, IsToldIn, TookOne}
use Rattle.steal_pool.specs.Pools.{tasks_weigh, bins_weigh, IsWholeIn, Drew, Joined}
use Rattle.steal_pool.proofs.Weights.{weigh_one}

-- a task that was told of all batches, drained
pub is_whole : (c : Call) (d : Drained) (t t' : Tasking) → IsToldIn c t → GoesOn t t' → IsAnswer d t t' → (t.told ≡ batches_in t.of.frame → d ≡ Whole) → IsWholeIn c t'
is_whole c d t t' told on answer whole =
    let frame = told.over.frame_is in
    let all : d ≡ Whole = whole (told.told ∙ ap batches_in (sym frame)) in
    let same : t'.of.frame ≡ c.frame = ap (λ (b : BinOfFrame). b.frame) on.of ∙ frame in
    record {
      over = record { of = still_of c.queues t t' on told.over.of; frame_is = same };
      drawn = subst (λ (a : Drained). IsAnswer a t t') all answer ∙ ap batches_in same;
    }

pub taken_more : (u w : View) (x : Tasking) → TookOne u x w → length w.taken ≡ length u.taken + 1
taken_more u w x t = ap (λ (y : View). length y.taken) t.view ∙ length-append u.taken ((t.place, x.of.bin) ∷ [])

-- a view that took is still of its call
pub of_next : (c : Call) (u w : View) (x : Tasking) → u.of ≡ c → TookOne u x w → w.of ≡ c
of_next c u w x is t = ap (λ (y : View). y.of) t.view ∙ is

pub of_drew : (c : Call) (l l' : List Tasking) (v u : View) → v.of ≡ c → Drew l l' v u → u.of ≡ c
of_drew c l l' v u is d = ap (λ (y : View). y.of) d.view ∙ is

pub told_next : (c : Call) (u w : View) (x : Tasking) → u.of ≡ c → TookOne u x w → IsToldIn c x
told_next c u w x is t = subst (λ (z : Call). IsToldIn z x) is t.told

-- there is room for the task
pub room_next : (c : Call) (v u w : View) (x : Tasking) (len cap first most : ℕ) → u.of ≡ c → TookOne u x w → first + c.room ≤ most + length v.taken → len + length v.taken ≡ first + length u.taken → most ≤ cap → len < cap
room_next c v u w x len cap first most is t room count grew =
    let e : u.of.room ≡ c.room = ap (λ (z : Call). z.room) is in
    let h = t.room in
    omega (arith, e, h, room, count, grew)

pub drew_none : (l : List Tasking) (v : View) → Drew l l v v
drew_none l v = record { view = λ i. v; weighs = λ k i. tasks_weigh k l + bins_weigh k v.taken; many = λ i. length l + length v.taken }

pub drew_more : (c : Call) (l l' l'' : List Tasking) (v u w : View) (x : Tasking) → Drew l l' v u → TookOne u x w → Joined c l' l'' x → Drew l l'' v w
drew_more c l l' l'' v u w x d t j =
    let q : List (ℕ × ℕ) = u.taken ++ (t.place, x.of.bin) ∷ [] in
    let is : w.taken ≡ q = ap (λ (y : View). y.taken) t.view in
    record {
      view = t.view ∙ ap (λ (y : View). with_taken y q) d.view ∙ ap (with_taken v) (sym is);
      weighs = λ k.
          let z : tasks_weigh k l'' ≡ tasks_weigh k (l' ++ j.task ∷ []) = ap (tasks_weigh k) j.list_is in
          let a = weigh_one (λ (y : Tasking). k y.of.bin) l' j.task in
          let f : k j.task.of.bin ≡ k x.of.bin = ap k j.bin_is in
          let b = weigh_one (λ (p : ℕ × ℕ). k p.1) u.taken (t.place, x.of.bin) in
          let e : bins_weigh k w.taken ≡ bins_weigh k q = ap (bins_weigh k) is in
          let h = d.weighs k in
          omega arith;
      many =
          let z : length l'' ≡ length (l' ++ j.task ∷ []) = ap length j.list_is in
          let a = length-append l' (j.task ∷ []) in
          let b = taken_more u w x t in
          let h = d.many in
          omega arith;
    }

pub whole_more : (c : Call) (l' l'' : List Tasking) (x : Tasking) → Joined c l' l'' x → All (IsWholeIn c) l' → All (IsWholeIn c) l''
whole_more c l' l'' x j all = subst (λ (l : List Tasking). All (IsWholeIn c) l) (sym j.list_is) (All-push (IsWholeIn c) l' j.task all j.whole)

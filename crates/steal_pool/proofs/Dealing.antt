-- Tasks that are dealt to the deques of their bins' workers.
use Rattle.std.proofs.Common.{◌≡◌, ℕ, ◌+◌, ◌%◌, ◌≤◌, ◌<◌, cond, eq-eqb, All, List, [], ◌∷◌, ◌++◌, drop, take, length, set, get_or, sym, ap, ◌∙◌, subst, length-append, arith, vec_len, vec_capacity}
use Rattle.std.proofs.lemmas.List.{length-set, get_or_default, drop_all, take_more}
use Rattle.std.proofs.lemmas.List.Elements.{All-head, All-tail}
use Rattle.crossbeam_deque.specs.Handles.{worker_view, worker_deque, worker_index, worker_capacity, SameWorker}
use Rattle.atomic_table.proofs.Lists.{at_index}
use Rattle.bin_queues.specs.Tasks.{Tasking}
use Rattle.steal_pool.specs.declared.deque_rule.Call.{Call}
use Rattle.steal_pool.specs.declared.deque_rule.Role.TheVariants.{Owns}
use Rattle.steal_pool.specs.declared.deque_rule.View.{View}
use Rattle.steal_pool.specs.declared.seat.Seat.{Seat}
use Rattle.steal_pool.specs.DequeRule.{weigh, owning, IsToldIn}
use Rattle.steal_pool.specs.Finish.{pushed_weigh}
use Rattle.steal_pool.specs.Making.{belongs, owned, AreFilling, IsFilling}
use Rattle.steal_pool.specs.Pools.{tasks_weigh}
use Rattle.steal_pool.proofs.Weights.{weigh_one, weigh_set}
use Rattle.steal_pool.proofs.Gathering.{each_put}

-- one task more is counted
pub owned_more : (workers worker : ℕ) (ts : List Tasking) (i : ℕ) (t : Tasking) → i < length ts → t ≡ get_or ts i t
    → owned workers worker (take (i + 1) ts) ≡ owned workers worker (take i ts) + belongs workers worker t.of.bin
owned_more workers worker ts i t lt is =
    ap (owned workers worker) (take_more ts i t lt)
    ∙ weigh_one (λ (y : Tasking). belongs workers worker y.of.bin) (take i ts) (get_or ts i t)
    ∙ ap (λ (y : Tasking). owned workers worker (take i ts) + belongs workers worker y.of.bin) (sym is)

-- the worker to which a bin belongs
own_bin : (workers worker bin : ℕ) → worker ≡ bin % workers → belongs workers worker bin ≡ 1
own_bin workers worker bin is = ap (λ b. cond b 1 0) (eq-eqb (bin % workers) worker (sym is))

-- a deal: one task goes from the list to an owner
dealt_kept : (c : Call) (v v' : View) (b : ℕ) → v ≡ owning c v.pushed [] 0 → v' ≡ owning v.of (v.pushed ++ b ∷ []) v.taken v.out → v' ≡ owning c v'.pushed [] 0
dealt_kept c v v' b was is =
    let p : v.pushed ++ b ∷ [] ≡ v'.pushed = sym (ap (λ (y : View). y.pushed) is) in
    is ∙ ap (λ (y : View). owning y.of (y.pushed ++ b ∷ []) y.taken y.out) was ∙ ap (λ (l : List ℕ). owning c l [] 0) p

dealt_many : (v v' : View) (b : ℕ) → v' ≡ owning v.of (v.pushed ++ b ∷ []) v.taken v.out → length v'.pushed ≡ length v.pushed + 1
dealt_many v v' b is = ap (λ (y : View). length y.pushed) is ∙ length-append v.pushed (b ∷ [])

-- what the deque of a worker is good for
pub record MayPush (s : Seat) (x : Tasking) : Type 0 where
  pub owns : (worker_view s.owner).role ≡ Owns
  pub told : IsToldIn (worker_view s.owner).of x
  pub short : length (worker_view s.owner).pushed < (worker_view s.owner).of.room
  pub room : worker_index s.owner < worker_capacity s.owner

pub may_push : (c : Call) (was ss : List Seat) (all left left' : List Tasking) (x : Tasking) (w : ℕ) (r : Seat) → AreFilling c was ss all left → left ≡ x ∷ left' → w < length ss → w ≡ x.of.bin % length was
    → MayPush (get_or ss w r) x
may_push c was ss all left left' x w r at is lt own =
    let s = get_or ss w r in
    let f = at.filling w r lt in
    let of : (worker_view s.owner).of ≡ c = ap (λ (v : View). v.of) f.dealt.owns in
    let room : (worker_view s.owner).of.room ≡ c.room = ap (λ (z : Call). z.room) of in
    let here = at.room w r lt in
    let one = own_bin (length was) w x.of.bin own in
    let more : owned (length was) w left ≡ belongs (length was) w x.of.bin + owned (length was) w left' = ap (owned (length was) w) is in
    let index = f.index in
    let slots = f.slots in
    record {
      owns = ap (λ (v : View). v.role) f.dealt.owns;
      told = subst (λ (z : Call). IsToldIn z x) (sym of) (All-head (IsToldIn c) x left' (subst (λ (l : List Tasking). All (IsToldIn c) l) is at.told));
      short = omega (arith, room, here, one, more);
      room = omega (arith, here, one, more, index, slots);
    }

pub dealt_more : (c : Call) (was ss : List Seat) (all left left' : List Tasking) (x : Tasking) (w : ℕ) (r q : Seat) → AreFilling c was ss all left → left ≡ x ∷ left' → w < length ss → w ≡ x.of.bin % length was
    → q.list ≡ (get_or ss w r).list
    → SameWorker (get_or ss w r).owner q.owner × (worker_index q.owner ≡ worker_index (get_or ss w r).owner + 1)
    → (let v = worker_view (get_or ss w r).owner in worker_view q.owner ≡ owning v.of (v.pushed ++ x.of.bin ∷ []) v.taken v.out)
    → AreFilling c was (set ss w q) all left'
dealt_more c was ss all left left' x w r q at is lt own list same pushed =
    let p = get_or ss w r in
    let f = at.filling w r lt in
    let l = length-set ss w q in
    let is_p : p ≡ get_or ss w p = get_or_default ss w r p lt in
    let many = dealt_many (worker_view p.owner) (worker_view q.owner) x.of.bin pushed in
    let more : (j : ℕ) → owned (length was) j left ≡ belongs (length was) j x.of.bin + owned (length was) j left' = λ j. ap (owned (length was) j) is in
    let one = own_bin (length was) w x.of.bin own in
    let new : IsFilling c (length was) q =
    record {
      dealt = record {
        owns = dealt_kept c (worker_view p.owner) (worker_view q.owner) x.of.bin f.dealt.owns pushed;
        fifo = same.0.1 ∙ f.dealt.fifo;
        empty = ap (λ v. v.items) list ∙ f.dealt.empty;
        none = ap (λ v. vec_len v) list ∙ f.dealt.none;
        room = let a = f.dealt.room in let e = ap (λ v. vec_capacity v) list in omega (arith, a, e);
      };
      index = let a = f.index in let b = same.1 in omega (arith, a, b, many);
      slots = let a = f.slots in let b = same.0.3 in omega (arith, a, b);
    } in
    record {
      many = l ∙ at.many;
      filling = λ i s long. each_put (λ (j : ℕ) (y : Seat). IsFilling c (length was) y) ss w i q s lt (λ e. new) (λ ne. at.filling i s (omega (arith, long, l)));
      told = All-tail (IsToldIn c) x left' (subst (λ (z : List Tasking). All (IsToldIn c) z) is at.told);
      once = λ k.
          let a = weigh_set (λ (s : Seat). weigh k (worker_view s.owner).pushed) ss w p q (at_index ss w p lt is_p) in
          let b : weigh k (worker_view q.owner).pushed ≡ weigh k ((worker_view p.owner).pushed ++ x.of.bin ∷ []) = ap (λ (y : View). weigh k y.pushed) pushed in
          let d = weigh_one k (worker_view p.owner).pushed x.of.bin in
          let e : tasks_weigh k left ≡ k x.of.bin + tasks_weigh k left' = ap (tasks_weigh k) is in
          let h = at.once k in
          omega arith;
      room = λ i s long.
          each_put (λ (j : ℕ) (y : Seat). length (worker_view y.owner).pushed + owned (length was) j left' ≤ c.room) ss w i q s lt
          (λ e. let a = at.room w r lt in let b = more w in omega (arith, a, b, many, one))
          (λ ne. let a = at.room i s (omega (arith, long, l)) in let b = more i in omega (arith, a, b));
      same = λ i s long.
          each_put (λ (j : ℕ) (y : Seat). worker_deque y.owner ≡ worker_deque (get_or was j s).owner) ss w i q s lt
          (λ e. same.0.0 ∙ ap (λ (y : Seat). worker_deque y.owner) (get_or_default ss w r s lt) ∙ at.same w s (omega (arith, lt)))
          (λ ne. at.same i s (omega (arith, long, l)));
    }

-- all are dealt
pub none_left : (c : Call) (was ss : List Seat) (all : List Tasking) (done : ℕ) (k : ℕ → ℕ) → AreFilling c was ss all (drop done all) → length all ≤ done → pushed_weigh k ss ≡ tasks_weigh k all
none_left c was ss all done k at le =
    let none : tasks_weigh k (drop done all) ≡ 0 = ap (tasks_weigh k) (drop_all done all le) in
    let h = at.once k in
    omega (arith, none, h)

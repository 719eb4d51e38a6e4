-- The deques of seats, and their stealers.
use Rattle.std.proofs.Common.{◌≡◌, ℕ, ◌+◌, ◌≤◌, ◌<◌, All, List, [], ◌∷◌, ◌++◌, length, get_or, arith, ap, sym, ◌∙◌}
use Rattle.std.specs.Global.{Global}
use Rattle.std.proofs.lemmas.List.{get_or_default}
use Rattle.atomic_blocks.specs.Lent.{RowsId}
use Rattle.cull_base.proofs.Lists.{pushed_at}
use Rattle.crossbeam_deque.specs.Handles.{worker_deque, worker_view}
use Rattle.bin_queues.specs.Tasks.{Tasking}
use Rattle.steal_pool.specs.declared.deque_rule.Call.{Call}
use Rattle.steal_pool.specs.declared.deque_rule.View.{View}
use Rattle.steal_pool.specs.declared.seat.Seat.{Seat}
use Rattle.steal_pool.specs.DequeRule.{weigh, owning, IsToldIn}
use Rattle.steal_pool.specs.Making.{AreAtTo, AreFilling, IsEmptySeat, IsFilling, owned}
use Rattle.steal_pool.proofs.Weights.{weigh_zero}

pub none_at : {S : Type 0} (f : S → RowsId × Global) (ts : List S) (ss : List Seat) → AreAtTo f 0 ts ss
none_at f ts ss i t s lt = absurd (omega (arith, lt))

pub at_more : {S : Type 0} (f : S → RowsId × Global) (n : ℕ) (ts : List S) (ss : List Seat) (t : S) (r : Seat) → length ts ≡ n → n < length ss → r ≡ get_or ss n r → f t ≡ worker_deque r.owner
    → AreAtTo f n ts ss → AreAtTo f (n + 1) (ts ++ t ∷ []) ss
at_more {S} f n ts ss t r len lt is own at i d s il =
    pushed_at (λ (k : ℕ) (x : S). (q : Seat) → worker_deque (get_or ss k q).owner ≡ f x) n ts t len (λ k e kl q. at k e q kl)
    (λ q. ap (λ (z : Seat). worker_deque z.owner) (sym (is ∙ get_or_default ss n r q lt)) ∙ sym own) i d il s

-- a view of an owner that pushed nothing
own_pushed : (c : Call) (v : View) → v ≡ owning c [] [] 0 → v ≡ owning c v.pushed [] 0
own_pushed c v is = is ∙ ap (λ (l : List ℕ). owning c l [] 0) (sym (ap (λ (y : View). y.pushed) is))

filling_of : (c : Call) (workers : ℕ) (s : Seat) → IsEmptySeat c workers s → IsFilling c workers s
filling_of c workers s e = record {
  dealt = record { owns = own_pushed c (worker_view s.owner) e.owns; fifo = e.fifo; empty = e.empty; none = e.none; room = e.room };
  index = e.index ∙ sym (ap (λ (v : View). length v.pushed) e.owns);
  slots = e.slots;
}

-- before the first task is dealt
pub none_dealt : (c : Call) (ss : List Seat) (ts : List Tasking) → All (IsEmptySeat c (length ss)) ss → All (IsToldIn c) ts → ((w : ℕ) → w < length ss → owned (length ss) w ts ≤ c.room) → AreFilling c ss ss ts ts
none_dealt c ss ts empty told room =
    record {
      many = λ i. length ss;
      filling = λ i s lt. filling_of c (length ss) (get_or ss i s) (empty i s lt);
      told = told;
      once = λ k. let z = weigh_zero (λ (s : Seat). weigh k (worker_view s.owner).pushed) ss (λ i d lt. ap (λ (v : View). weigh k v.pushed) (empty i d lt).owns) in omega arith;
      room = λ i s lt. let z : length (worker_view (get_or ss i s).owner).pushed ≡ 0 = ap (λ (v : View). length v.pushed) (empty i s lt).owns in let r = room i lt in omega (arith, z, r);
      same = λ i s lt j. worker_deque (get_or ss i s).owner;
    }

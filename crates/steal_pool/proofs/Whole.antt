-- Several workers, from the first to the last.
use Rattle.std.proofs.Common.{◌≡◌, ℕ, ◌+◌, ◌<◌, All, List, [], ◌∷◌, length, get_or, sym, ap, ◌∙◌, subst, arith, vec_len, vec_capacity}
use Rattle.std.specs.Global.{Global}
use Rattle.atomic_blocks.specs.Lent.{RowsId}
use Rattle.crossbeam_deque.specs.Handles.{worker_view}
use Rattle.steal_pool.specs.declared.deque_rule.Call.{Call}
use Rattle.steal_pool.specs.declared.deque_rule.View.{View}
use Rattle.steal_pool.specs.declared.seat.Seat.{Seat}
use Rattle.steal_pool.specs.DequeRule.{weigh}
use Rattle.steal_pool.specs.Pools.{tasks_weigh, bins_weigh, IsWholeIn}
use Rattle.steal_pool.specs.Seats.{passes_weigh, AreWorked}
use Rattle.steal_pool.specs.Gather.{owners_weigh, all_passes_weigh, AreOut, AreKeptAside}
use Rattle.steal_pool.specs.Finish.{AreFinishedTo, lists_weigh, pushed_weigh}
use Rattle.steal_pool.proofs.Weights.{weigh_each, weigh_both}

pick : {S : Type 0} (ds : List S) → 0 < length ds → S
pick [] lt = absurd (omega arith)
pick (x ∷ xs) lt = x

module _ {S : Type 0} (f : S → RowsId × Global) (c : Call) (ds : List S) (ss ss' : List Seat) (worked : AreWorked f c ds ss ss') where
  pub worked_lists : (k : ℕ → ℕ) → lists_weigh k ss' ≡ owners_weigh k ss' + all_passes_weigh k ss'
  worked_lists k =
      let m = worked.many in
      weigh_both (λ (s : Seat). tasks_weigh k s.list.items) (λ (s : Seat). bins_weigh k (worker_view s.owner).taken) (λ (s : Seat). passes_weigh k s.passes.items) ss' (λ i s lt. (worked.each i s (omega arith)).weighs k)

  pub pushed_on : (ss'' : List Seat) (k : ℕ → ℕ) → length ss'' ≡ length ss' → AreKeptAside ss' ss'' → pushed_weigh k ss'' ≡ pushed_weigh k ss
  pushed_on ss'' k same kept =
      let m = worked.many in
      weigh_each (λ (s : Seat). weigh k (worker_view s.owner).pushed) ss ss'' (same ∙ m)
      (λ i s lt. ap (weigh k) ((kept.each i s (omega arith)).pushed ∙ ap (λ (v : View). v.pushed) (worked.each i s lt).owns))

  pub are_left : (ss'' : List Seat) → length ss'' ≡ length ss' → AreKeptAside ss' ss'' → AreOut f c ds 0 0 ss'' → length ss ≡ length ds → AreFinishedTo c 0 ss''
  are_left ss'' same kept out long =
      let m = worked.many in
      record {
        finished = λ i s less lt. absurd (omega arith);
        left = λ i s le lt.
            let o = out.after i (pick ds (omega arith)) s le lt in
            let k = kept.each i s (omega arith) in
            let w = worked.each i s (omega arith) in
            record {
              fifo = o.fifo;
              owns = o.owns;
              whole = subst (λ v. All (IsWholeIn c) v.items) (sym k.list) w.whole;
              room = let a = w.room in let b = k.longer in
                  let d : vec_len (get_or ss'' i s).list ≡ vec_len (get_or ss' i s).list = ap (λ v. vec_len v) k.list in
                  let e : vec_capacity (get_or ss'' i s).list ≡ vec_capacity (get_or ss' i s).list = ap (λ v. vec_capacity v) k.list in
                  omega arith;
            };
      }

pub lists_on : (k : ℕ → ℕ) (ss' ss'' : List Seat) → length ss'' ≡ length ss' → AreKeptAside ss' ss'' → lists_weigh k ss'' ≡ lists_weigh k ss'
lists_on k ss' ss'' same kept = weigh_each (λ (s : Seat). tasks_weigh k s.list.items) ss' ss'' same (λ i s lt. ap (λ v. tasks_weigh k v.items) (kept.each i s lt).list)

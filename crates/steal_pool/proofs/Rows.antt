-- The passes of one seat after another end.
use Rattle.std.proofs.Common.{◌≡◌, ◌≢◌, ℕ, ◌+◌, ◌≤◌, ◌<◌, List, [], length, set, get_or, refl, sym, ap, ◌∙◌, subst, arith}
use Rattle.std.specs.Global.{Global}
use Rattle.std.proofs.lemmas.List.{get_or_default, length-set}
use Rattle.atomic_blocks.specs.Lent.{RowsId}
use Rattle.crossbeam_deque.specs.Handles.{worker_view, worker_deque, worker_flavor}
use Rattle.steal_pool.specs.declared.deque_rule.Call.{Call}
use Rattle.steal_pool.specs.declared.deque_rule.View.{View}
use Rattle.steal_pool.specs.declared.seat.Seat.{Seat}
use Rattle.steal_pool.specs.DequeRule.{owning}
use Rattle.steal_pool.specs.Pools.{bins_weigh}
use Rattle.steal_pool.specs.Seats.{passes_weigh, ArePassesOf}
use Rattle.steal_pool.specs.Gather.{owners_weigh, all_passes_weigh, IsOut, AreOut, AreKept, IsKeptAside, AreKeptAside, HavePassesFrom}
use Rattle.steal_pool.proofs.Weights.{weigh_set, weigh_each, weigh_zero}
use Rattle.steal_pool.proofs.Gathering.{each_put, owners_put}
use Rattle.atomic_table.proofs.Lists.{at_index}

out_same : (q : RowsId × Global) (c : Call) (out : ℕ) (s t : Seat) → t.owner ≡ s.owner → IsOut q c out s → IsOut q c out t
out_same q c out s t e a = record {
  of = ap (λ o. worker_deque o) e ∙ a.of;
  fifo = ap (λ o. worker_flavor o) e ∙ a.fifo;
  owns = subst (λ o. worker_view o ≡ owning c (worker_view o).pushed (worker_view o).taken out) (sym e) a.owns;
}

pub out_row : {S : Type 0} (f : S → RowsId × Global) (c : Call) (ds : List S) (out left n w : ℕ) (ss : List Seat) (r q : Seat) → AreOut f c ds 0 out ss → out ≡ left + 1 → n ≡ length ss → w < length ss
    → q.owner ≡ (get_or ss w r).owner → AreOut f c ds n left (set ss w q)
out_row f c ds out left n w ss r q are is long lt same =
    let l = length-set ss w q in
    record {
      before = λ i u s less here.
          each_put (λ j x. IsOut (f (get_or ds j u)) c (left + 1) x) ss w i q s lt
          (λ e. subst (λ m. IsOut (f (get_or ds w u)) c m q) is (out_same _ c out (get_or ss w r) q same (are.after w u r (omega arith) lt)))
          (λ ne. subst (λ m. IsOut (f (get_or ds i u)) c m (get_or ss i s)) is (are.after i u s (omega arith) (omega arith)));
      after = λ i u s le here. absurd (omega arith);
    }

pub have_next : {S : Type 0} (f : S → RowsId × Global) (c : Call) (ds : List S) (w : ℕ) (ss ss' : List Seat) (q : Seat) → HavePassesFrom f c ds w ss → AreKept (set ss w q) ss' → length ss' ≡ length ss → w < length ss
    → q.passes.items ≡ [] → HavePassesFrom f c ds (w + 1) ss'
have_next f c ds w ss ss' q have kept same lt none =
    let l = length-set ss w q in
    record {
      none = λ i s less here. ap (λ v. v.items) (kept.each i s (omega arith)).passes
          ∙ each_put (λ j x. x.passes.items ≡ []) ss w i q s lt (λ e. none) (λ ne. have.none i s (omega arith) (omega arith));
      each = λ i s le here. subst (λ v. ArePassesOf f c ds v.items) (sym (kept.each i s (omega arith)).passes)
          (each_put (λ j x. j ≢ w → ArePassesOf f c ds x.passes.items) ss w i q s lt (λ e no. absurd (no refl)) (λ ne _. have.each i s (omega arith) (omega arith)) (λ e. omega arith));
    }

pub aside_next : (was ss ss' : List Seat) (w : ℕ) (r q : Seat) → length ss ≡ length was → AreKeptAside was ss → AreKept (set ss w q) ss' → w < length ss → q.owner ≡ (get_or ss w r).owner → q.list ≡ (get_or ss w r).list
    → AreKeptAside was ss'
aside_next was ss ss' w r q same aside kept lt own list =
    let l = length-set ss w q in
    record {
      each = λ i s here.
          let k = kept.each i s (omega arith) in
          let a : IsKeptAside (get_or was i s) (get_or (set ss w q) i s) =
          each_put (λ j x. IsKeptAside (get_or was j s) x) ss w i q s lt
          (λ e. over (get_or was w s) (get_or ss w r) q (subst (IsKeptAside (get_or was w s)) (get_or_default ss w s r lt) (aside.each w s (omega arith))) own list)
          (λ ne. aside.each i s here) in
          record { list = k.list ∙ a.list; pushed = k.pushed ∙ a.pushed; longer = let m = k.longer in let n = a.longer in omega arith };
    }
  where
    over : (x y z : Seat) → IsKeptAside x y → z.owner ≡ y.owner → z.list ≡ y.list → IsKeptAside x z
    over x y z a o b = record {
      list = b ∙ a.list;
      pushed = ap (λ p. (worker_view {V = View} p).pushed) o ∙ a.pushed;
      longer = subst (λ p. length (worker_view x.owner).taken ≤ length (worker_view {V = View} p).taken) (sym o) a.longer;
    }

pub weighs_next : (k : ℕ → ℕ) (ss ss' : List Seat) (w : ℕ) (r q : Seat) → length ss' ≡ length ss → w < length ss → r ≡ get_or ss w r → q.owner ≡ r.owner → q.passes.items ≡ [] → AreKept (set ss w q) ss'
    → owners_weigh k ss' ≡ owners_weigh k (set ss w q) + passes_weigh k r.passes.items → owners_weigh k ss' + all_passes_weigh k ss' ≡ owners_weigh k ss + all_passes_weigh k ss
weighs_next k ss ss' w r q same lt is own none kept row =
    let l = length-set ss w q in
    let a = owners_put k ss w r q lt is in
    let b : bins_weigh k (worker_view q.owner).taken ≡ bins_weigh k (worker_view r.owner).taken = ap (λ o. bins_weigh k (worker_view {V = View} o).taken) own in
    let d = weigh_set (λ (s : Seat). passes_weigh k s.passes.items) ss w r q (at_index ss w r lt is) in
    let e : passes_weigh k q.passes.items ≡ 0 = ap (passes_weigh k) none in
    let g : all_passes_weigh k ss' ≡ all_passes_weigh k (set ss w q) =
    weigh_each (λ (s : Seat). passes_weigh k s.passes.items) (set ss w q) ss' (same ∙ sym l) (λ i s here. ap (λ v. passes_weigh k v.items) (kept.each i s here).passes) in
    omega arith

pub all_none : {S : Type 0} (f : S → RowsId × Global) (c : Call) (ds : List S) (n : ℕ) (ss : List Seat) (k : ℕ → ℕ) → HavePassesFrom f c ds n ss → length ss ≤ n → all_passes_weigh k ss ≡ 0
all_none f c ds n ss k have le = weigh_zero (λ (s : Seat). passes_weigh k s.passes.items) ss (λ i d lt. ap (passes_weigh k) (have.none i d (omega arith) lt))

-- While the passes of all workers end in the owners' views.
use Rattle.std.proofs.Common.{◌≡◌, ◌≢◌, ℕ, ◌+◌, ◌<◌, List, [], ◌∷◌, ◌++◌, length, set, get_or, refl, sym, ap, ◌∙◌, subst, length-append, arith}
use mathlib.Core.Logic.{dite}
use native.Mathlib.Decide.{ℕ_discrete}
use Rattle.std.specs.Global.{Global}
use Rattle.std.proofs.lemmas.List.{get_or_default, get_or-set_same, get_or-set_other, length-set, get_or_append_left, get_or_push}
use Rattle.atomic_blocks.specs.Lent.{RowsId}
use Rattle.atomic_table.proofs.Lists.{at_index}
use Rattle.crossbeam_deque.specs.Handles.{Pass, view, IsPassOf, worker_view}
use Rattle.bin_queues.specs.Tasks.{Tasking}
use Rattle.steal_pool.specs.declared.deque_rule.Call.{Call}
use Rattle.steal_pool.specs.declared.deque_rule.View.{View}
use Rattle.steal_pool.specs.declared.seat.Seat.{Seat}
use Rattle.steal_pool.specs.DequeRule.{stealing}
use Rattle.steal_pool.specs.Pools.{bins_weigh}
use Rattle.steal_pool.specs.Seats.{passes_weigh}
use Rattle.steal_pool.specs.Gather.{owners_weigh, IsOut, AreOut, IsKept, AreKept, AreEnds}
use Rattle.steal_pool.proofs.Weights.{weigh_set, weigh_one}

pub each_put : (F : ℕ → Seat → Type 0) (ss : List Seat) (d i : ℕ) (q s : Seat) → d < length ss → (i ≡ d → F d q) → (i ≢ d → F i (get_or ss i s)) → F i (get_or (set ss d q) i s)
each_put F ss d i q s lt mine others =
    dite (ℕ_discrete i d)
    (λ e. subst (λ (j : ℕ). F j (get_or (set ss d q) j s)) (sym e) (subst (F d) (sym (get_or-set_same ss d q s lt)) (mine e)))
    (λ ne. subst (F i) (sym (get_or-set_other ss d i q s ne)) (others ne))

pub out_put : {S : Type 0} (f : S → RowsId × Global) (c : Call) (ds : List S) (out d : ℕ) (ss : List Seat) (t : S) (q : Seat) → AreOut f c ds (d + 1) out ss → d < length ss → d < length ds → t ≡ get_or ds d t
    → IsOut (f t) c out q → AreOut f c ds d out (set ss d q)
out_put f c ds out d ss t q are lt in_ds is new =
    record {
      before = λ i u s less long. each_put (λ j r. IsOut (f (get_or ds j u)) c (out + 1) r) ss d i q s lt (λ e. absurd (omega arith)) (λ ne. are.before i u s (omega arith) (let l = length-set ss d q in omega arith));
      after = λ i u s le long.
          each_put (λ j r. IsOut (f (get_or ds j u)) c out r) ss d i q s lt
          (λ e. subst (λ (x : _). IsOut (f x) c out q) (is ∙ get_or_default ds d t u in_ds) new)
          (λ ne. are.after i u s (omega arith) (let l = length-set ss d q in omega arith));
    }

pub kept_put : (was ss : List Seat) (d : ℕ) (p q : Seat) → length ss ≡ length was → AreKept was ss → d < length ss → p ≡ get_or ss d p → IsKept p q → AreKept was (set ss d q)
kept_put was ss d p q same are lt is new =
    record {
      each = λ i s long. each_put (λ j r. IsKept (get_or was j s) r) ss d i q s lt
          (λ e.
          let a : IsKept (get_or was d s) (get_or ss d s) = are.each d s (omega arith) in
          let e' : get_or ss d s ≡ p = get_or_default ss d s p lt ∙ sym is in
          over (get_or was d s) p q (subst (IsKept (get_or was d s)) e' a) new)
          (λ ne. are.each i s long);
    }
  where
    over : (x y z : Seat) → IsKept x y → IsKept y z → IsKept x z
    over x y z a b = record { list = b.list ∙ a.list; passes = b.passes ∙ a.passes; pushed = b.pushed ∙ a.pushed; longer = let m = a.longer in let n = b.longer in omega arith }

pub owners_put : (k : ℕ → ℕ) (ss : List Seat) (d : ℕ) (p q : Seat) → d < length ss → p ≡ get_or ss d p
    → owners_weigh k (set ss d q) + bins_weigh k (worker_view p.owner).taken ≡ owners_weigh k ss + bins_weigh k (worker_view q.owner).taken
owners_put k ss d p q lt is = weigh_set (λ (s : Seat). bins_weigh k (worker_view s.owner).taken) ss d p q (at_index ss d p lt is)

module _ {S : Type 0} (f : S → RowsId × Global) (c : Call) (ds : List S) where
  pub ends_but_last : (ps ps' : List (Pass Tasking View Global)) (p : Pass Tasking View Global) → ps ≡ ps' ++ p ∷ [] → AreEnds f c ds ps → AreEnds f c ds ps'
  ends_but_last ps ps' p is are =
      let l : length ps ≡ length ps' + 1 = ap length is ∙ length-append ps' (p ∷ []) in
      let at : (i : ℕ) (d : Pass Tasking View Global) → i < length ps' → get_or ps i d ≡ get_or ps' i d = λ i d lt. ap (λ (x : List (Pass Tasking View Global)). get_or x i d) is ∙ get_or_append_left ps' (p ∷ []) d i lt in
      record {
        many = let m = are.many in omega arith;
        of = λ i s d lt. subst (IsPassOf (f (get_or ds i s))) (at i d lt) (are.of i s d (omega arith));
        steals = λ i d lt. subst (λ (q : Pass Tasking View Global). view q ≡ stealing c (view q).taken) (at i d lt) (are.steals i d (omega arith));
      }

  pub last_ends : (ps ps' : List (Pass Tasking View Global)) (p : Pass Tasking View Global) (t : S) → ps ≡ ps' ++ p ∷ [] → t ≡ get_or ds (length ps') t → AreEnds f c ds ps
      → IsPassOf (f t) p × (view p ≡ stealing c (view p).taken)
  last_ends ps ps' p t is at are =
      let l : length ps ≡ length ps' + 1 = ap length is ∙ length-append ps' (p ∷ []) in
      let e : get_or ps (length ps') p ≡ p = ap (λ (x : List (Pass Tasking View Global)). get_or x (length ps') p) is ∙ get_or_push ps' p p (length ps') refl in (
        subst (λ (y : S × Pass Tasking View Global). IsPassOf (f y.0) y.1) (λ i. (sym at i, e i)) (are.of (length ps') t p (omega arith)),
        subst (λ (q : Pass Tasking View Global). view q ≡ stealing c (view q).taken) e (are.steals (length ps') p (omega arith)),
      )

pub passes_but_last : (k : ℕ → ℕ) (ps ps' : List (Pass Tasking View Global)) (p : Pass Tasking View Global) → ps ≡ ps' ++ p ∷ [] → passes_weigh k ps ≡ passes_weigh k ps' + bins_weigh k (view p).taken
passes_but_last k ps ps' p is = ap (passes_weigh k) is ∙ weigh_one (λ (q : Pass Tasking View Global). bins_weigh k (view q).taken) ps' p

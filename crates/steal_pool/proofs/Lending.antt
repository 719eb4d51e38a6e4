-- Passes that are lent, a row of them to each worker.
use Rattle.std.proofs.Common.{◌≡◌, ◌≢◌, ℕ, ◌+◌, ◌*◌, ◌≤◌, ◌<◌, All, List, [], ◌∷◌, ◌++◌, length, set, get_or, refl, sym, ap, ◌∙◌, subst, length-append, arith, vec_len, vec_capacity}
use Rattle.std.specs.Global.{Global}
use Rattle.std.proofs.lemmas.List.{get_or_default, length-set}
use Rattle.std.proofs.lemmas.List.Elements.{All-nil, All-push}
use Rattle.atomic_blocks.specs.Lent.{RowsId}
use Rattle.cull_base.proofs.Lists.{pushed_at}
use Rattle.crossbeam_deque.specs.Handles.{Pass, view, IsPassOf, worker_view, worker_deque, worker_flavor}
use Rattle.bin_queues.specs.Tasks.{Tasking}
use Rattle.steal_pool.specs.declared.deque_rule.Call.{Call}
use Rattle.steal_pool.specs.declared.deque_rule.View.{View}
use Rattle.steal_pool.specs.declared.seat.Seat.{Seat}
use Rattle.steal_pool.specs.DequeRule.{owning, stealing, lending}
use Rattle.steal_pool.specs.Finish.{AreAt}
use Rattle.steal_pool.specs.Gather.{AreEnds}
use Rattle.steal_pool.specs.Making.{AreLent, AreLentOn, AreRoomy, AreSeatsOn, HaveRowsTo, IsDealt, IsLentOn, IsSeatOn}
use Rattle.steal_pool.specs.Seats.{ArePassesOf, AreFresh, IsOpen}
use Rattle.steal_pool.proofs.Gathering.{each_put}

-- an owner that lent one pass more
pub lent_view : (c : Call) (v v' : View) (out : ℕ) → v ≡ owning c v.pushed [] out → v' ≡ lending v → v' ≡ owning c v'.pushed [] (out + 1)
lent_view c v v' out was is =
    let p : v.pushed ≡ v'.pushed = sym (ap (λ (y : View). y.pushed) is) in
    is ∙ ap lending was ∙ ap (λ (l : List ℕ). owning c l [] (out + 1)) p

dealt_same : (c : Call) (workers out : ℕ) (s t : Seat) → t.owner ≡ s.owner → t.list ≡ s.list → IsDealt c workers out s → IsDealt c workers out t
dealt_same c workers out s t own list a = record {
  owns = subst (λ o. worker_view o ≡ owning c (worker_view o).pushed [] out) (sym own) a.owns;
  fifo = ap (λ o. worker_flavor o) own ∙ a.fifo;
  empty = ap (λ v. v.items) list ∙ a.empty;
  none = ap (λ v. vec_len v) list ∙ a.none;
  room = let r = a.room in let e = ap (λ v. vec_capacity v) list in omega (arith, r, e);
}

-- ---- room for rows

module _ {X Y : Type 0} (items : X → List Y) (room : X → ℕ) (n : ℕ) where
  pub none_roomy : (rows : List X) → rows ≡ [] → AreRoomy items room n rows
  none_roomy rows is = subst (AreRoomy items room n) (sym is) (All-nil (λ (x : X). (items x ≡ []) × (n ≤ room x)))

  pub roomy_more : (rows : List X) (row : X) → AreRoomy items room n rows → items row ≡ [] → n ≤ room row → AreRoomy items room n (rows ++ row ∷ [])
  roomy_more rows row are none enough = All-push (λ (x : X). (items x ≡ []) × (n ≤ room x)) rows row are (none, enough)

-- ---- one row

-- the seat whose owner is next to lend
pub lent_is : (c : Call) (workers d out : ℕ) (ss : List Seat) (r : Seat) → AreLent c workers d out ss → d < length ss → IsDealt c workers out (get_or ss d r)
lent_is c workers d out ss r are lt = are.after d r (omega arith) lt

pub lent_put : (c : Call) (workers d out : ℕ) (ss : List Seat) (q : Seat) → AreLent c workers d out ss → d < length ss → IsDealt c workers (out + 1) q → AreLent c workers (d + 1) out (set ss d q)
lent_put c workers d out ss q are lt new =
    let l = length-set ss d q in
    record {
      before = λ i s less long. each_put (λ (j : ℕ) (x : Seat). IsDealt c workers (out + 1) x) ss d i q s lt (λ e. new) (λ ne. are.before i s (omega arith) (omega arith));
      after = λ i s le long. each_put (λ (j : ℕ) (x : Seat). j ≢ d → IsDealt c workers out x) ss d i q s lt (λ e no. absurd (no refl)) (λ ne _. are.after i s (omega arith) (omega arith)) (λ e. omega arith);
    }

pub lent_on_none : (ss : List Seat) → AreLentOn ss ss
lent_on_none ss = record { many = λ i. length ss; each = λ i s lt. record { passes = λ j. (get_or ss i s).passes; pushed = λ j. (worker_view (get_or ss i s).owner).pushed; deque = λ j. worker_deque (get_or ss i s).owner } }

pub lent_on_put : (was ss : List Seat) (d : ℕ) (p q : Seat) → AreLentOn was ss → d < length ss → p ≡ get_or ss d p → IsLentOn p q → AreLentOn was (set ss d q)
lent_on_put was ss d p q on lt is new =
    let l = length-set ss d q in
    let m = on.many in
    record {
      many = l ∙ m;
      each = λ i s long. each_put (λ (j : ℕ) (x : Seat). IsLentOn (get_or was j s) x) ss d i q s lt
          (λ e.
          let a = on.each d s (omega arith) in
          let e' : get_or ss d s ≡ p = get_or_default ss d s p lt ∙ sym is in
          over (get_or was d s) p q (subst (IsLentOn (get_or was d s)) e' a) new)
          (λ ne. on.each i s long);
    }
  where
    over : (x y z : Seat) → IsLentOn x y → IsLentOn y z → IsLentOn x z
    over x y z a b = record { passes = b.passes ∙ a.passes; pushed = b.pushed ∙ a.pushed; deque = b.deque ∙ a.deque }

-- the pass is one of the deque at this place
pub own_pass : {S : Type 0} (f : S → RowsId × Global) (ds : List S) (was ss : List Seat) (d : ℕ) (p : Seat) (pass : Pass Tasking View Global) → AreLentOn was ss → AreAt f ds was → d < length ss → p ≡ get_or ss d p
    → IsPassOf (worker_deque p.owner) pass → (t : S) → IsPassOf (f (get_or ds d t)) pass
own_pass f ds was ss d p pass on at lt is own t =
    let m = on.many in
    let here : d < length was = omega arith in
    let e : worker_deque p.owner ≡ f (get_or ds d t) = ap (λ (y : Seat). worker_deque y.owner) is ∙ (on.each d p here).deque ∙ at d t p here in
    subst (λ (x : RowsId × Global). IsPassOf x pass) e own

pub ends_none : {S : Type 0} (f : S → RowsId × Global) (c : Call) (ds : List S) (ps : List (Pass Tasking View Global)) → ps ≡ [] → AreEnds f c ds ps
ends_none f c ds ps is =
    let n : length ps ≡ 0 = ap length is in
    record { many = omega arith; of = λ i s p lt. absurd (omega arith); steals = λ i p lt. absurd (omega arith) }

pub fresh_none : (ps : List (Pass Tasking View Global)) → ps ≡ [] → AreFresh ps
fresh_none ps is i p lt = absurd (omega (arith, lt, ap length is))

pub ends_more : {S : Type 0} (f : S → RowsId × Global) (c : Call) (ds : List S) (ps : List (Pass Tasking View Global)) (p : Pass Tasking View Global) (d : ℕ) → AreEnds f c ds ps → length ps ≡ d → d < length ds
    → ((t : S) → IsPassOf (f (get_or ds d t)) p) → view p ≡ stealing c [] → AreEnds f c ds (ps ++ p ∷ [])
ends_more {S} f c ds ps p d ends len lt own fresh =
    let more = length-append ps (p ∷ []) in
    let steals : view p ≡ stealing c (view p).taken = fresh ∙ ap (stealing c) (sym (ap (λ (v : View). v.taken) fresh)) in
    record {
      many = omega arith;
      of = λ i s q long. pushed_at (λ (k : ℕ) (x : Pass Tasking View Global). IsPassOf (f (get_or ds k s)) x) d ps p len (λ k e kl. ends.of k s e (omega arith)) (own s) i q (omega arith);
      steals = λ i q long. pushed_at (λ (k : ℕ) (x : Pass Tasking View Global). view x ≡ stealing c (view x).taken) d ps p len (λ k e kl. ends.steals k e (omega arith)) steals i q (omega arith);
    }

pub fresh_more : (c : Call) (ps : List (Pass Tasking View Global)) (p : Pass Tasking View Global) (d : ℕ) → length ps ≡ d → AreFresh ps → view p ≡ stealing c [] → AreFresh (ps ++ p ∷ [])
fresh_more c ps p d len fresh new i q long =
    let more = length-append ps (p ∷ []) in
    pushed_at (λ (k : ℕ) (x : Pass Tasking View Global). (view x).taken ≡ []) d ps p len (λ k e kl. fresh k e (omega arith)) (ap (λ (v : View). v.taken) new) i q (omega arith)

pub row_whole : {S : Type 0} (f : S → RowsId × Global) (c : Call) (ds : List S) (ps : List (Pass Tasking View Global)) → AreEnds f c ds ps → length ps ≡ length ds → ArePassesOf f c ds ps
row_whole f c ds ps ends all = record { many = all; of = ends.of; steals = ends.steals }

-- ---- row by row

pub none_lent : (c : Call) (workers : ℕ) (ss : List Seat) → All (IsDealt c workers 0) ss → AreLent c workers 0 0 ss
none_lent c workers ss dealt = record { before = λ i s less lt. absurd (omega arith); after = λ i s le lt. dealt i s lt }

pub lent_to : (c : Call) (n m from out : ℕ) (ss : List Seat) → n ≡ m → AreLent c m from out ss → AreLent c n from out ss
lent_to c n m from out ss is are = subst (λ k. AreLent c k from out ss) (sym is) are

pub lent_next : (c : Call) (n workers w : ℕ) (ss : List Seat) (r q : Seat) → n ≡ workers → length ss ≡ n → AreLent c n n w ss → w < length ss → q.owner ≡ (get_or ss w r).owner → q.list ≡ (get_or ss w r).list
    → AreLent c workers 0 (w + 1) (set ss w q)
lent_next c n workers w ss r q is long are lt own list =
    let l = length-set ss w q in
    let all : (i : ℕ) (s : Seat) → i < length ss → IsDealt c workers (w + 1) (get_or ss i s) = λ i s here. subst (λ k. IsDealt c k (w + 1) (get_or ss i s)) is (are.before i s (omega arith) here) in
    record {
      before = λ i s less here. absurd (omega arith);
      after = λ i s le here. each_put (λ (j : ℕ) (x : Seat). IsDealt c workers (w + 1) x) ss w i q s lt (λ e. dealt_same c workers (w + 1) (get_or ss w r) q own list (all w r lt)) (λ ne. all i s (omega arith));
    }

pub seats_on_none : (ss : List Seat) → AreSeatsOn ss ss
seats_on_none ss = record { many = λ i. length ss; each = λ i s lt. record { pushed = λ j. (worker_view (get_or ss i s).owner).pushed; deque = λ j. worker_deque (get_or ss i s).owner } }

pub seats_on_next : (was ss ss' : List Seat) (w : ℕ) (r q : Seat) → AreSeatsOn was ss → AreLentOn ss ss' → w < length ss' → q.owner ≡ (get_or ss' w r).owner → AreSeatsOn was (set ss' w q)
seats_on_next was ss ss' w r q seats on lt own =
    let l = length-set ss' w q in
    let m = seats.many in
    let n = on.many in
    let all : (i : ℕ) (s : Seat) → i < length was → IsSeatOn (get_or was i s) (get_or ss' i s) = λ i s here.
    let a = seats.each i s here in
    let b = on.each i s (omega arith) in
    record { pushed = b.pushed ∙ a.pushed; deque = b.deque ∙ a.deque } in
    record {
      many = l ∙ n ∙ m;
      each = λ i s here. each_put (λ (j : ℕ) (x : Seat). IsSeatOn (get_or was j s) x) ss' w i q s lt
          (λ e.
          let a = all w s (omega arith) in
          let d = get_or_default ss' w r s lt in
          record {
            pushed = ap (λ o. (worker_view {V = View} o).pushed) own ∙ ap (λ (y : Seat). (worker_view y.owner).pushed) d ∙ a.pushed;
            deque = ap (λ o. worker_deque o) own ∙ ap (λ (y : Seat). worker_deque y.owner) d ∙ a.deque;
          })
          (λ ne. all i s here);
    }

pub at_on : {S : Type 0} (f : S → RowsId × Global) (ds : List S) (was ss : List Seat) → AreSeatsOn was ss → AreAt f ds was → AreAt f ds ss
at_on f ds was ss on at i t s lt =
    let m = on.many in
    let here : i < length was = omega arith in
    (on.each i s here).deque ∙ at i t s here

module _ {S : Type 0} (f : S → RowsId × Global) (c : Call) (ds : List S) where
  pub no_rows : (ss : List Seat) → HaveRowsTo f c ds 0 ss
  no_rows ss i s less lt = absurd (omega arith)

  pub rows_next : (w : ℕ) (ss ss' : List Seat) (q : Seat) → HaveRowsTo f c ds w ss → AreLentOn ss ss' → w < length ss' → ArePassesOf f c ds q.passes.items → AreFresh q.passes.items → HaveRowsTo f c ds (w + 1) (set ss' w q)
  rows_next w ss ss' q rows on lt passes fresh i s less here =
      let l = length-set ss' w q in
      let n = on.many in
      each_put (λ (j : ℕ) (x : Seat). ArePassesOf f c ds x.passes.items × AreFresh x.passes.items) ss' w i q s lt (λ e. (passes, fresh))
      (λ ne. subst (λ v. ArePassesOf f c ds v.items × AreFresh v.items) (sym (on.each i s (omega arith)).passes) (rows i s (omega arith) (omega arith)))

  -- all passes are lent
  pub all_open : (n : ℕ) (ss : List Seat) (workers : ℕ) → AreLent c workers 0 n ss → HaveRowsTo f c ds n ss → length ss ≡ workers → workers ≡ length ds → n ≡ workers → All (IsOpen f c ds) ss
  all_open n ss workers lent rows long many last i s lt =
      let d = lent.after i s (omega arith) lt in
      let row = rows i s (omega arith) lt in
      record {
        owns = d.owns ∙ ap (λ k. owning c (worker_view (get_or ss i s).owner).pushed [] k) (last ∙ many);
        fifo = d.fifo;
        passes = row.0;
        fresh = row.1;
        empty = d.empty;
        none = d.none;
        room = subst (λ k. c.room + k * c.room ≤ vec_capacity (get_or ss i s).list) many d.room;
      }

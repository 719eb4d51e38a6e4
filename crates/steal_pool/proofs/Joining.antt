-- The lists of all workers as one list: one task of each bin.
use Rattle.std.proofs.Common.{◌≡◌, ℕ, suc, ◌+◌, ◌≤◌, ◌<◌, cond, eqb, eq-eqb, ne_eqb, All, List, [], ◌∷◌, ◌++◌, drop, length, get_or, refl, sym, ap, ◌∙◌, subst, append_assoc, arith, inl, inr}
use Rattle.std.proofs.lemmas.Bool.{cases_eq}
use Rattle.std.proofs.lemmas.List.{get_or_default, drop_all}
use Rattle.std.proofs.lemmas.List.Elements.{All-push, All-nil}
use Rattle.atomic_table.proofs.Lists.{at_index}
use Rattle.bin_queues.specs.Tasks.{Tasking}
use Rattle.tile_queues.specs.Owners.{AreTasksOf}
use Rattle.tile_queues.specs.Shares.{AreWhole}
use Rattle.tile_queues.proofs.Changing.{all_parts}
use Rattle.steal_pool.specs.declared.deque_rule.Call.{Call}
use Rattle.steal_pool.specs.declared.seat.Seat.{Seat}
use Rattle.steal_pool.specs.DequeRule.{weigh, IsToldIn}
use Rattle.steal_pool.specs.Finish.{AreFinishedTo, lists_weigh}
use Rattle.steal_pool.specs.Lists.{joined, drawn_weigh, AreDrawnLists, AreListed, AreTold}
use Rattle.steal_pool.specs.Pools.{tasks_weigh, IsWholeIn}
use Rattle.steal_pool.proofs.Weights.{weigh_append, weigh_at, weigh_length, weigh_one}

-- ---- the lists of seats

module _ {X : Type 0} (items : X → List Tasking) (c : Call) (all : List Seat) where
  pub none_listed : (ls : List X) → ls ≡ [] → AreListed items c all all ls
  none_listed ls is = record {
    once = λ k. let none : drawn_weigh items k ls ≡ 0 = ap (drawn_weigh items k) is in omega (arith, none);
    whole = subst (AreDrawnLists items c) (sym is) (All-nil (λ (x : X). All (IsWholeIn c) (items x)));
  }

  pub listed_more : (left left' : List Seat) (ls : List X) (s : Seat) (l : X) (n : ℕ) → AreListed items c all left ls → left ≡ s ∷ left' → items l ≡ s.list.items → s ≡ get_or all n s → n < length all → AreFinishedTo c (length all) all
      → AreListed items c all left' (ls ++ l ∷ [])
  listed_more left left' ls s l n at is same here lt finished = record {
    once = λ k.
        let a = weigh_one (λ (x : X). tasks_weigh k (items x)) ls l in
        let b : tasks_weigh k (items l) ≡ tasks_weigh k s.list.items = ap (tasks_weigh k) same in
        let d : lists_weigh k left ≡ tasks_weigh k s.list.items + lists_weigh k left' = ap (lists_weigh k) is in
        let h = at.once k in
        omega arith;
    whole =
        let w : All (IsWholeIn c) s.list.items = ap_whole s (get_or all n s) (sym here) (finished.finished n s lt lt).whole in
        All-push (λ (x : X). All (IsWholeIn c) (items x)) ls l at.whole (subst (λ (ts : List Tasking). All (IsWholeIn c) ts) (sym same) w);
  }
    where
      ap_whole : (s t : Seat) → t ≡ s → All (IsWholeIn c) t.list.items → All (IsWholeIn c) s.list.items
      ap_whole s t e w = subst (λ (y : Seat). All (IsWholeIn c) y.list.items) e w

  pub all_listed : (ls : List X) (done : ℕ) (k : ℕ → ℕ) → AreListed items c all (drop done all) ls → length all ≤ done → drawn_weigh items k ls ≡ lists_weigh k all
  all_listed ls done k at le =
      let none : lists_weigh k (drop done all) ≡ 0 = ap (lists_weigh k) (drop_all done all le) in
      let h = at.once k in
      omega (arith, none, h)

-- ---- all lists as one

module _ {X : Type 0} (items : X → List Tasking) where
  pub joined_next : (all : List Tasking) (left left' : List X) (x : X) → left ≡ x ∷ left' → (all ++ items x) ++ joined items left' ≡ all ++ joined items left
  joined_next all left left' x is = append_assoc all (items x) (joined items left') ∙ ap (λ (l : List X). all ++ joined items l) (sym is)

  pub joined_weigh : (k : ℕ → ℕ) (ls : List X) → tasks_weigh k (joined items ls) ≡ drawn_weigh items k ls
  joined_weigh k [] = refl
  joined_weigh k (x ∷ xs) = let a = weigh_append (λ (t : Tasking). k t.of.bin) (items x) (joined items xs) in let b = joined_weigh k xs in omega arith

  pub joined_whole : (c : Call) (ls : List X) → AreDrawnLists items c ls → All (IsWholeIn c) (joined items ls)
  joined_whole c [] whole = All-nil (IsWholeIn c)
  joined_whole c (x ∷ xs) whole = all_parts (IsWholeIn c) (items x) (joined items xs) (whole 0 x (omega arith)) (joined_whole c xs (λ i d lt. whole (suc i) d (omega arith)))

-- ---- one task of each bin

abbrev pub is_bin : ℕ → ℕ → ℕ
is_bin b x = cond (eqb x b) 1 0

-- a bin of which there is a task
pub there : (ts : List Tasking) (b i : ℕ) (t : Tasking) → i < length ts → t ≡ get_or ts i t → t.of.bin ≡ b → 1 ≤ tasks_weigh (is_bin b) ts
there ts b i t lt is e =
    let one : is_bin b t.of.bin ≡ 1 = ap (λ z. cond z 1 0) (eq-eqb t.of.bin b e) in
    let h = weigh_at (λ (y : Tasking). is_bin b y.of.bin) ts i t (at_index ts i t lt is) in
    omega (arith, one, h)

-- and the place of one
found : (ts : List Tasking) (b : ℕ) → 1 ≤ tasks_weigh (is_bin b) ts → (i : ℕ) × (i < length ts) × ((d : Tasking) → (get_or ts i d).of.bin ≡ b)
found [] b h = absurd (omega (arith, h))
found (x ∷ xs) b h = elim (cases_eq x.of.bin b) [
  | inl e ↦ (0, omega arith, λ d. e)
  | inr ne ↦
      let none : is_bin b x.of.bin ≡ 0 = ap (λ z. cond z 1 0) (ne_eqb x.of.bin b ne) in
      let r = found xs b (omega (arith, none, h)) in
      (suc r.0, (let lt = r.1 in omega (arith, lt)), r.2)
]

pub some_of : (ts : List Tasking) → 0 < length ts → Tasking
some_of [] lt = absurd (omega arith)
some_of (t ∷ ts) lt = t

-- tasks that weigh what those of a frame weigh, all drawn to the end
pub are_whole : (c : Call) (ts ts' : List Tasking) → AreTasksOf c.queues c.frame ts → ((k : ℕ → ℕ) → tasks_weigh k ts' ≡ tasks_weigh k ts) → All (IsWholeIn c) ts' → AreWhole c.queues c.frame ts'
are_whole c ts ts' at once whole =
    record {
      tasks_are = record {
        count =
            let a : weigh (λ (t : Tasking). 1) ts' ≡ weigh (λ (t : Tasking). 1) ts = once (λ n. 1) in
            let b = weigh_length ts in
            let d = weigh_length ts' in
            let n = at.count in
            omega (arith, a, b, d, n);
        of = λ i d lt. (whole i d lt).over.of;
        frame_is = λ i d lt. (whole i d lt).over.frame_is;
        all = λ b lt.
            let f = at.all b lt in
            let some = some_of ts (let k = f.1 in omega (arith, k)) in
            let t = get_or ts f.0 some in
            let a = there ts b f.0 t f.1 (get_or_default ts f.0 some t f.1) (f.2 some) in
            let e = once (is_bin b) in
            found ts' b (omega (arith, a, e));
      };
      drawn = λ i d lt. (whole i d lt).drawn;
    }

-- tasks of a frame that are told of all batches may be pushed
pub all_told : (c : Call) (ts : List Tasking) → AreTold c.queues c.frame ts → All (IsToldIn c) ts
all_told c ts told i d lt = record {
  over = record { of = told.tasks_are.of i d lt; frame_is = told.tasks_are.frame_is i d lt };
  told = told.told i d lt;
}

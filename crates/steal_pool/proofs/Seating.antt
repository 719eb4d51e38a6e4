-- The passes of a seat.
use Rattle.std.proofs.Common.{◌≡◌, ◌≢◌, ℕ, suc, ◌+◌, ◌*◌, ◌≤◌, ◌<◌, List, [], ◌∷◌, All, length, set, get_or, refl, sym, ap, ◌∙◌, subst, arith, vec_len, vec_capacity}
use mathlib.Core.Logic.{dite}
use native.Mathlib.Decide.{ℕ_discrete}
use Rattle.std.proofs.Math.Nat.{mul-le-mul_right, suc-mul}
use Rattle.std.proofs.lemmas.List.{get_or_default, get_or-set_same, get_or-set_other, length-set}
use Rattle.std.specs.Global.{Global}
use Rattle.atomic_blocks.specs.Lent.{RowsId}
use Rattle.atomic_table.proofs.Lists.{at_index}
use Rattle.crossbeam_deque.specs.Handles.{Pass, view, IsPassOf, SameWorker, worker_view}
use Rattle.bin_queues.specs.Tasks.{Tasking}
use Rattle.steal_pool.specs.declared.deque_rule.Call.{Call}
use Rattle.steal_pool.specs.declared.deque_rule.Role.TheVariants.{Steals}
use Rattle.steal_pool.specs.declared.deque_rule.View.{View}
use Rattle.steal_pool.specs.DequeRule.{stealing, with_taken, IsShort}
use Rattle.steal_pool.specs.declared.seat.Seat.{Seat}
use Rattle.steal_pool.specs.Pools.{tasks_weigh, bins_weigh, IsWholeIn, Drew}
use Rattle.steal_pool.specs.Seats.{passes_weigh, ArePassesOf, AreFresh, IsOpen, IsWorked}
use Rattle.steal_pool.proofs.Weights.{weigh_set}

-- what one more pass may take
pub room_left : (d n room : ℕ) → d < n → d * room + room ≤ n * room
room_left d n room lt = let a : suc d * room ≤ n * room = mul-le-mul_right room lt in let b = suc-mul d room in omega arith

module _ {A : Type 0} where
  pub nothing_taken : (k : ℕ → ℕ) (ps : List (Pass Tasking View A)) → AreFresh ps → passes_weigh k ps ≡ 0
  nothing_taken k [] fresh = refl
  nothing_taken k (p ∷ ps) fresh =
      let a : bins_weigh k (view p).taken ≡ 0 = ap (bins_weigh k) (fresh 0 p (omega arith)) in
      let b = nothing_taken k ps (λ i q lt. fresh (suc i) q (omega arith)) in
      omega arith

  pub passes_set : (k : ℕ → ℕ) (ps : List (Pass Tasking View A)) (d : ℕ) (p q : Pass Tasking View A) → d < length ps → p ≡ get_or ps d p
      → passes_weigh k (set ps d q) + bins_weigh k (view p).taken ≡ passes_weigh k ps + bins_weigh k (view q).taken
  passes_set k ps d p q lt is = weigh_set (λ (r : Pass Tasking View A). bins_weigh k (view r).taken) ps d p q (at_index ps d p lt is)

  -- a fact of all passes after a change of one
  each_set : (F : ℕ → Pass Tasking View A → Type 0) (ps : List (Pass Tasking View A)) (d : ℕ) (q : Pass Tasking View A) → d < length ps → F d q
      → ((i : ℕ) (p : Pass Tasking View A) → i ≢ d → i < length ps → F i (get_or ps i p))
      → (i : ℕ) (p : Pass Tasking View A) → i < length (set ps d q) → F i (get_or (set ps d q) i p)
  each_set F ps d q lt mine others i p long =
      let l = length-set ps d q in
      dite (ℕ_discrete i d)
      (λ e. subst (λ (j : ℕ). F j (get_or (set ps d q) j p)) (sym e) (subst (F d) (sym (get_or-set_same ps d q p lt)) mine))
      (λ ne. subst (F i) (sym (get_or-set_other ps d i q p ne)) (others i p ne (omega arith)))

  pub passes_of_set : {S : Type 0} (f : S → RowsId × A) (c : Call) (ds : List S) (ps : List (Pass Tasking View A)) (d : ℕ) (t : S) (q : Pass Tasking View A)
      → ArePassesOf f c ds ps → d < length ds → t ≡ get_or ds d t → IsPassOf (f t) q → view q ≡ stealing c (view q).taken → ArePassesOf f c ds (set ps d q)
  passes_of_set f c ds ps d t q are lt is of steals =
      let m = are.many in
      let lt' : d < length ps = omega arith in
      record {
        many = length-set ps d q ∙ m;
        of = λ i s p long.
            each_set (λ (j : ℕ) (r : Pass Tasking View A). IsPassOf (f (get_or ds j s)) r) ps d q lt'
            (subst (λ (u : _). IsPassOf (f u) q) (is ∙ get_or_default ds d t s lt) of) (λ j r ne l. are.of j s r l) i p long;
        steals = each_set (λ (j : ℕ) (r : Pass Tasking View A). view r ≡ stealing c (view r).taken) ps d q lt' steals (λ j r ne l. are.steals j r l);
      }

-- the pass on a deque, and whose view it has
pub pass_at : {S A : Type 0} (f : S → RowsId × A) (c : Call) (ds : List S) (ps : List (Pass Tasking View A)) (d : ℕ) (t : S) (p : Pass Tasking View A) → ArePassesOf f c ds ps → d < length ps → t ≡ get_or ds d t → p ≡ get_or ps d p → IsPassOf (f t) p
pass_at {S} {A} f c ds ps d t p are lt is same = subst (λ (y : S × Pass Tasking View A). IsPassOf (f y.0) y.1) (λ i. (sym is i, sym same i)) (are.of d t p lt)

steals_as_role : (c : Call) (v u : View) → v ≡ u → u ≡ stealing c u.taken → v.role ≡ Steals
steals_as_role c v u same is = ap (λ (y : View). y.role) (same ∙ is)

pub steals_on : (c : Call) (v u w : View) → v ≡ u → u ≡ stealing c u.taken → w ≡ with_taken v w.taken → w ≡ stealing c w.taken
steals_on c v u w same is d = d ∙ ap (λ (y : View). with_taken y w.taken) (same ∙ is)

-- a list that grew by what one more pass took
pub room_kept : (d room l l' first before after : ℕ) → l ≤ first + d * room → l' + before ≡ l + after → after ≤ room → l' ≤ first + (d + 1) * room
room_kept d room l l' first before after a b e = let s = suc-mul d room in let t : (d + 1) * room ≡ suc d * room = ap (λ (n : ℕ). n * room) (omega arith) in omega arith

of_is : (c : Call) (v u : View) → v ≡ u → u ≡ stealing c u.taken → v.of ≡ c
of_is c v u same is = ap (λ (y : View). y.of) (same ∙ is)

-- a pass of a seat steals for the call
pub stealing_at : {S A : Type 0} (f : S → RowsId × A) (c : Call) (ds : List S) (ps : List (Pass Tasking View A)) (d : ℕ) (p : Pass Tasking View A) → ArePassesOf f c ds ps → d < length ds → p ≡ get_or ps d p
    → ((view p).role ≡ Steals) × ((view p).of ≡ c)
stealing_at {S} {A} f c ds ps d p are lt is =
    let at = are.steals d p (let many = are.many in omega (arith, many, lt)) in
    (steals_as_role c (view p) (view (get_or ps d p)) (ap view is) at, of_is c (view p) (view (get_or ps d p)) (ap view is) at)

-- what is left of the room of a list for one pass more
pub pass_room : (count room i len first most cap before : ℕ) → i < count → len ≤ first + i * room → first + count * room ≤ most → most ≤ cap → len + room ≤ cap + before
pass_room count room i len first most cap before lt le all grew = let a = room_left i count room lt in omega (arith, a, le, all, grew)

-- a worker that popped its own tasks, and went round
pub worked : {S : Type 0} (f : S → RowsId × Global) (c : Call) (ds : List S) (s t : Seat) (mid : List Tasking) (len cap : ℕ) → IsOpen f c ds s → SameWorker s.owner t.owner → Drew s.list.items mid (worker_view s.owner) (worker_view t.owner)
    → len + length (worker_view s.owner).taken ≡ vec_len s.list + length (worker_view t.owner).taken → vec_capacity s.list ≤ cap
    → ArePassesOf f c ds t.passes.items → ((k : ℕ → ℕ) → tasks_weigh k t.list.items + passes_weigh k s.passes.items ≡ tasks_weigh k mid + passes_weigh k t.passes.items) → All (IsWholeIn c) t.list.items
    → vec_len t.list ≤ len + length ds * c.room → cap ≤ vec_capacity t.list → IsWorked f c ds s t
worked f c ds s t mid len cap opened same drew count grew passes round whole long more =
    let none : length (worker_view s.owner).taken ≡ 0 = ap (λ (v : View). length v.taken) opened.owns in
    record {
      same = same;
      owns = drew.view ∙ ap (λ (v : View). with_taken v (worker_view t.owner).taken) opened.owns;
      passes = passes;
      weighs = λ k.
          let a = round k in
          let b = nothing_taken k s.passes.items opened.fresh in
          let d = drew.weighs k in
          let e : bins_weigh k (worker_view s.owner).taken ≡ 0 = ap (λ (v : View). bins_weigh k v.taken) opened.owns in
          let h : tasks_weigh k s.list.items ≡ 0 = ap (tasks_weigh k) opened.empty in
          omega arith;
      whole = whole;
      room = let r = opened.room in let z = opened.none in omega (arith, none, count, grew, long, more, r, z);
    }

-- what the round needs of a worker that popped its own tasks
pub round_room : {S : Type 0} (f : S → RowsId × Global) (c : Call) (ds : List S) (s : Seat) (v : View) (len cap : ℕ) → IsOpen f c ds s → v.of ≡ c → IsShort v → len + length (worker_view s.owner).taken ≡ vec_len s.list + length v.taken → vec_capacity s.list ≤ cap
    → len + length ds * c.room ≤ cap
round_room f c ds s v len cap opened is short count grew =
    let none : length (worker_view s.owner).taken ≡ 0 = ap (λ (u : View). length u.taken) opened.owns in
    let e : v.of.room ≡ c.room = ap (λ (z : Call). z.room) is in
    let r = opened.room in
    let z = opened.none in
    omega (arith, none, e, short, count, grew, r, z)

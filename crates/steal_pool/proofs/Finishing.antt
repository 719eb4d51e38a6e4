-- What is left in the deques is drawn.
use Rattle.std.proofs.Common.{◌≡◌, ◌≢◌, ℕ, ◌+◌, ◌≤◌, ◌<◌, List, length, set, get_or, refl, ap, ◌∙◌, arith}
use Rattle.std.proofs.lemmas.List.{length-set}
use Rattle.atomic_table.proofs.Lists.{at_index}
use Rattle.crossbeam_deque.specs.Handles.{worker_view}
use Rattle.steal_pool.specs.declared.deque_rule.Call.{Call}
use Rattle.steal_pool.specs.declared.deque_rule.View.{View}
use Rattle.steal_pool.specs.declared.seat.Seat.{Seat}
use Rattle.steal_pool.specs.DequeRule.{weigh, LooksEmpty}
use Rattle.steal_pool.specs.Pools.{tasks_weigh, bins_weigh, Drew}
use Rattle.bin_queues.specs.Tasks.{Tasking}
use Rattle.steal_pool.specs.Gather.{owners_weigh}
use Rattle.steal_pool.specs.Finish.{IsLeft, IsFinished, AreFinishedTo, lists_weigh, pushed_weigh}
use Rattle.steal_pool.proofs.Weights.{weigh_set, weigh_bins, weigh_pairs}
use Rattle.steal_pool.proofs.Gathering.{each_put, owners_put}

-- the look that ends the pops, with nothing out
pub has_all : (l l' : List Tasking) (v u : View) → v.out ≡ 0 → Drew l l' v u → LooksEmpty u → (k : ℕ → ℕ) → bins_weigh k u.taken ≡ weigh k u.pushed
has_all l l' v u none d look k = look.1 (ap (λ (y : View). y.out) d.view ∙ none) (λ (p : ℕ × ℕ). k p.1) ∙ weigh_bins k 0 u.pushed

pub finished_next : (c : Call) (w : ℕ) (ss : List Seat) (q : Seat) → AreFinishedTo c w ss → w < length ss → IsFinished c q → AreFinishedTo c (w + 1) (set ss w q)
finished_next c w ss q are lt new =
    let l = length-set ss w q in
    record {
      finished = λ i s less here. each_put (λ j x. IsFinished c x) ss w i q s lt (λ e. new) (λ ne. are.finished i s (omega arith) (omega arith));
      left = λ i s le here. each_put (λ j x. j ≢ w → IsLeft c x) ss w i q s lt (λ e no. absurd (no refl)) (λ ne _. are.left i s (omega arith) (omega arith)) (λ e. omega arith);
    }

pub sums_next : (k : ℕ → ℕ) (ss : List Seat) (w : ℕ) (p q : Seat) → w < length ss → p ≡ get_or ss w p
    → tasks_weigh k q.list.items + bins_weigh k (worker_view p.owner).taken ≡ tasks_weigh k p.list.items + bins_weigh k (worker_view q.owner).taken
    → lists_weigh k (set ss w q) + owners_weigh k ss ≡ lists_weigh k ss + owners_weigh k (set ss w q)
sums_next k ss w p q lt is moved =
    let a = weigh_set (λ (s : Seat). tasks_weigh k s.list.items) ss w p q (at_index ss w p lt is) in
    let b = owners_put k ss w p q lt is in
    omega arith

pub pushed_next : (k : ℕ → ℕ) (ss : List Seat) (w : ℕ) (p q : Seat) → w < length ss → p ≡ get_or ss w p → (worker_view q.owner).pushed ≡ (worker_view p.owner).pushed → pushed_weigh k (set ss w q) ≡ pushed_weigh k ss
pushed_next k ss w p q lt is same =
    let a = weigh_set (λ (s : Seat). weigh k (worker_view s.owner).pushed) ss w p q (at_index ss w p lt is) in
    let b : weigh k (worker_view q.owner).pushed ≡ weigh k (worker_view p.owner).pushed = ap (weigh k) same in
    omega arith

pub all_pushed : (c : Call) (n : ℕ) (ss : List Seat) (k : ℕ → ℕ) → AreFinishedTo c n ss → length ss ≤ n → owners_weigh k ss ≡ pushed_weigh k ss
all_pushed c n ss k are le = weigh_pairs (λ (s : Seat). bins_weigh k (worker_view s.owner).taken) (λ (s : Seat). weigh k (worker_view s.owner).pushed) ss (λ i d lt. (are.finished i d (omega arith) lt).every k)

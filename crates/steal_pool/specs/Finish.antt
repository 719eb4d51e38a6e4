-- What is left in the deques is drawn.
use Rattle.std.specs.Prelude.{◌≡◌, ℕ, ◌+◌, ◌≤◌, ◌<◌, List, All, length, slice_index_or, vec_len, vec_capacity}
use Rattle.std.specs.Global.{Global}
use Rattle.atomic_blocks.specs.Lent.{RowsId}
use Rattle.crossbeam_deque.specs.Handles.{worker_view, worker_flavor, worker_deque}
use Rattle.steal_pool.specs.declared.deque_rule.Call.{Call}
use Rattle.steal_pool.specs.declared.seat.Seat.{Seat}
use Rattle.steal_pool.specs.DequeRule.{weigh, owning}
use Rattle.steal_pool.specs.Pools.{tasks_weigh, bins_weigh, IsWholeIn}

abbrev pub lists_weigh : (ℕ → ℕ) → List Seat → ℕ
lists_weigh k seats = weigh (λ (s : Seat). tasks_weigh k s.list.items) seats

abbrev pub pushed_weigh : (ℕ → ℕ) → List Seat → ℕ
pushed_weigh k seats = weigh (λ (s : Seat). weigh k (worker_view s.owner).pushed) seats

-- a seat to which all passes came back
pub record IsLeft (c : Call) (s : Seat) : Type 0 where
  pub fifo : worker_flavor s.owner ≡ 0
  pub owns : worker_view s.owner ≡ owning c (worker_view s.owner).pushed (worker_view s.owner).taken 0
  pub whole : All (IsWholeIn c) s.list.items
  pub room : vec_len s.list + c.room ≤ vec_capacity s.list + length (worker_view s.owner).taken

-- and one whose owner's view has all that was pushed
pub record IsFinished (c : Call) (s : Seat) : Type 0 where
  pub whole : All (IsWholeIn c) s.list.items
  pub every : (k : ℕ → ℕ) → bins_weigh k (worker_view s.owner).taken ≡ weigh k (worker_view s.owner).pushed

pub record AreFinishedTo (c : Call) (w : ℕ) (seats : List Seat) : Type 0 where
  pub finished : (i : ℕ) (s : Seat) → i < w → i < length seats → IsFinished c (slice_index_or seats i s)
  pub left : (i : ℕ) (s : Seat) → w ≤ i → i < length seats → IsLeft c (slice_index_or seats i s)

-- each seat owns the deque at its place
abbrev pub AreAt : {S : Type 0} → (S → RowsId × Global) → List S → List Seat → Type 0
AreAt {S} deque deques seats =
    (i : ℕ) (t : S) (s : Seat) → i < length seats
    → worker_deque (slice_index_or seats i s).owner ≡ deque (slice_index_or deques i t)

-- What a worker's seat has.
use Rattle.std.specs.Prelude.{◌≡◌, ℕ, ◌+◌, ◌*◌, ◌≤◌, ◌<◌, List, [], All, length, slice_index_or, vec_len, vec_capacity}
use Rattle.std.specs.Global.{Global}
use Rattle.atomic_blocks.specs.Lent.{RowsId}
use Rattle.crossbeam_deque.specs.Handles.{Pass, view, IsPassOf, SameWorker, worker_view, worker_flavor}
use Rattle.bin_queues.specs.Tasks.{Tasking}
use Rattle.steal_pool.specs.declared.deque_rule.Call.{Call}
use Rattle.steal_pool.specs.declared.deque_rule.View.{View}
use Rattle.steal_pool.specs.DequeRule.{weigh, owning, stealing}
use Rattle.steal_pool.specs.Pools.{tasks_weigh, bins_weigh, IsWholeIn}
use Rattle.steal_pool.specs.declared.seat.Seat.{Seat}

-- what the passes took, by the weights of the bins
abbrev pub passes_weigh : {A : Type 0} → (ℕ → ℕ) → List (Pass Tasking View A) → ℕ
passes_weigh {A} k ps = weigh (λ (p : Pass Tasking View A). bins_weigh k (view p).taken) ps

-- a stealer's pass on each deque, in their order
pub record ArePassesOf {S A : Type 0} (deque : S → RowsId × A) (c : Call) (deques : List S)
    (passes : List (Pass Tasking View A)) : Type 0 where
  pub many : length passes ≡ length deques
  pub of : (i : ℕ) (s : S) (p : Pass Tasking View A) → i < length passes
      → IsPassOf (deque (slice_index_or deques i s)) (slice_index_or passes i p)
  pub steals : (i : ℕ) (p : Pass Tasking View A) → i < length passes
      → view (slice_index_or passes i p) ≡ stealing c (view (slice_index_or passes i p)).taken

-- the passes took nothing yet
abbrev pub AreFresh : {A : Type 0} → List (Pass Tasking View A) → Type 0
AreFresh {A} passes =
    (i : ℕ) (p : Pass Tasking View A) → i < length passes → (view (slice_index_or passes i p)).taken ≡ []

-- a worker before it begins: its deque is dealt, a pass of its own on each deque is out, and nothing is drawn
pub record IsOpen {S : Type 0} (deque : S → RowsId × Global) (c : Call) (deques : List S) (s : Seat) : Type 0 where
  pub owns : worker_view s.owner ≡ owning c (worker_view s.owner).pushed [] (length deques)
  pub fifo : worker_flavor s.owner ≡ 0
  pub passes : ArePassesOf deque c deques s.passes.items
  pub fresh : AreFresh s.passes.items
  pub empty : s.list.items ≡ []
  pub none : vec_len s.list ≡ 0
  pub room : c.room + length deques * c.room ≤ vec_capacity s.list

-- and after it: what it drew is what its own view and its passes took
pub record IsWorked {S : Type 0} (deque : S → RowsId × Global) (c : Call) (deques : List S) (s t : Seat)
    : Type 0 where
  pub same : SameWorker s.owner t.owner
  pub owns : worker_view t.owner
      ≡ owning c (worker_view s.owner).pushed (worker_view t.owner).taken (length deques)
  pub passes : ArePassesOf deque c deques t.passes.items
  pub weighs : (k : ℕ → ℕ)
      → tasks_weigh k t.list.items ≡ bins_weigh k (worker_view t.owner).taken + passes_weigh k t.passes.items
  pub whole : All (IsWholeIn c) t.list.items
  pub room : vec_len t.list + c.room ≤ vec_capacity t.list + length (worker_view t.owner).taken

pub record AreWorked {S : Type 0} (deque : S → RowsId × Global) (c : Call) (deques : List S)
    (seats seats' : List Seat) : Type 0 where
  pub many : length seats' ≡ length seats
  pub each : (i : ℕ) (d : Seat) → i < length seats
      → IsWorked deque c deques (slice_index_or seats i d) (slice_index_or seats' i d)

-- While the passes of all workers end in the owners' views.
use Rattle.std.specs.Prelude.{[], ◌≡◌, ℕ, ◌+◌, ◌≤◌, ◌<◌, List, length, slice_index_or}
use Rattle.std.specs.Global.{Global}
use Rattle.atomic_blocks.specs.Lent.{RowsId}
use Rattle.crossbeam_deque.specs.Handles.{Pass, view, IsPassOf, worker_view, worker_deque, worker_flavor}
use Rattle.steal_pool.specs.declared.deque_rule.Call.{Call}
use Rattle.bin_queues.specs.Tasks.{Tasking}
use Rattle.steal_pool.specs.declared.deque_rule.View.{View}
use Rattle.steal_pool.specs.declared.seat.Seat.{Seat}
use Rattle.steal_pool.specs.DequeRule.{weigh, owning, stealing}
use Rattle.steal_pool.specs.Pools.{bins_weigh}
use Rattle.steal_pool.specs.Seats.{passes_weigh, ArePassesOf}

-- what the owners' views took, by the weights of the bins
abbrev pub owners_weigh : (ℕ → ℕ) → List Seat → ℕ
owners_weigh k seats = weigh (λ (s : Seat). bins_weigh k (worker_view s.owner).taken) seats

-- a seat whose deque is this, with so many stealers' views out
pub record IsOut (deque : RowsId × Global) (c : Call) (out : ℕ) (s : Seat) : Type 0 where
  pub of : worker_deque s.owner ≡ deque
  pub fifo : worker_flavor s.owner ≡ 0
  pub owns : worker_view s.owner ≡ owning c (worker_view s.owner).pushed (worker_view s.owner).taken out

-- one more is out of the first `from` deques than of the others
pub record AreOut {S : Type 0} (deque : S → RowsId × Global) (c : Call) (deques : List S)
    (from out : ℕ) (seats : List Seat) : Type 0 where
  pub before : (i : ℕ) (t : S) (s : Seat) → i < from → i < length seats
      → IsOut (deque (slice_index_or deques i t)) c (out + 1) (slice_index_or seats i s)
  pub after : (i : ℕ) (t : S) (s : Seat) → from ≤ i → i < length seats
      → IsOut (deque (slice_index_or deques i t)) c out (slice_index_or seats i s)

-- all but what the owner's view took, which only grows
pub record IsKept (s t : Seat) : Type 0 where
  pub list : t.list ≡ s.list
  pub passes : t.passes ≡ s.passes
  pub pushed : (worker_view t.owner).pushed ≡ (worker_view s.owner).pushed
  pub longer : length (worker_view s.owner).taken ≤ length (worker_view t.owner).taken

pub record AreKept (seats seats' : List Seat) : Type 0 where
  pub each : (i : ℕ) (s : Seat) → i < length seats → IsKept (slice_index_or seats i s) (slice_index_or seats' i s)

-- the passes that are left to end: those on the first deques
pub record AreEnds {S A : Type 0} (deque : S → RowsId × A) (c : Call) (deques : List S)
    (passes : List (Pass Tasking View A)) : Type 0 where
  pub many : length passes ≤ length deques
  pub of : (i : ℕ) (s : S) (p : Pass Tasking View A) → i < length passes
      → IsPassOf (deque (slice_index_or deques i s)) (slice_index_or passes i p)
  pub steals : (i : ℕ) (p : Pass Tasking View A) → i < length passes
      → view (slice_index_or passes i p) ≡ stealing c (view (slice_index_or passes i p)).taken

-- what the passes of all seats took, by the weights of the bins
abbrev pub all_passes_weigh : (ℕ → ℕ) → List Seat → ℕ
all_passes_weigh k seats = weigh (λ (s : Seat). passes_weigh k s.passes.items) seats

-- from the `from`-th on, each seat has its passes; those before have none
pub record HavePassesFrom {S : Type 0} (deque : S → RowsId × Global) (c : Call) (deques : List S)
    (from : ℕ) (seats : List Seat) : Type 0 where
  pub none : (i : ℕ) (s : Seat) → i < from → i < length seats
      → (slice_index_or seats i s).passes.items ≡ []
  pub each : (i : ℕ) (s : Seat) → from ≤ i → i < length seats
      → ArePassesOf deque c deques (slice_index_or seats i s).passes.items

-- all but passes, and what the owner's view took, which only grows
pub record IsKeptAside (s t : Seat) : Type 0 where
  pub list : t.list ≡ s.list
  pub pushed : (worker_view t.owner).pushed ≡ (worker_view s.owner).pushed
  pub longer : length (worker_view s.owner).taken ≤ length (worker_view t.owner).taken

pub record AreKeptAside (seats seats' : List Seat) : Type 0 where
  pub each : (i : ℕ) (s : Seat) → i < length seats
      → IsKeptAside (slice_index_or seats i s) (slice_index_or seats' i s)

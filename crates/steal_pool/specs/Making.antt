-- How the seats of workers are made, dealt tasks and lent passes.
use Rattle.std.specs.Prelude.{◌≡◌, ◌==◌, ℕ, ◌+◌, ◌*◌, ◌%◌, ◌≤◌, ◌<◌, cond, List, [], All, length, slice_index_or}
use Rattle.std.specs.Prelude.{vec_len, vec_capacity}
use Rattle.std.specs.Global.{Global}
use Rattle.atomic_blocks.specs.Lent.{RowsId}
use Rattle.crossbeam_deque.specs.Handles.{worker_view, worker_flavor, worker_deque, worker_index, worker_capacity}
use Rattle.bin_queues.specs.Tasks.{Tasking}
use Rattle.steal_pool.specs.declared.deque_rule.Call.{Call}
use Rattle.steal_pool.specs.declared.seat.Seat.{Seat}
use Rattle.steal_pool.specs.DequeRule.{owning, IsToldIn}
use Rattle.steal_pool.specs.Pools.{tasks_weigh}
use Rattle.steal_pool.specs.Finish.{pushed_weigh}
use Rattle.steal_pool.specs.Seats.{ArePassesOf, AreFresh}

-- 1 where a bin belongs to a worker, of so many, and else 0
abbrev pub belongs : ℕ → ℕ → ℕ → ℕ
belongs workers worker bin = cond (bin % workers == worker) 1 0

-- how many tasks are of a worker's bins
abbrev pub owned : ℕ → ℕ → List Tasking → ℕ
owned workers worker tasks = tasks_weigh (belongs workers worker) tasks

-- a new seat: an empty deque, and an empty list with room for what the worker may draw
pub record IsEmptySeat (c : Call) (workers : ℕ) (s : Seat) : Type 0 where
  pub owns : worker_view s.owner ≡ owning c [] [] 0
  pub fifo : worker_flavor s.owner ≡ 0
  pub index : worker_index s.owner ≡ 0
  pub slots : c.room ≤ worker_capacity s.owner
  pub empty : s.list.items ≡ []
  pub none : vec_len s.list ≡ 0
  pub room : c.room + workers * c.room ≤ vec_capacity s.list

-- tasks were pushed to its deque, so many stealers' views are out, and nothing is drawn
pub record IsDealt (c : Call) (workers out : ℕ) (s : Seat) : Type 0 where
  pub owns : worker_view s.owner ≡ owning c (worker_view s.owner).pushed [] out
  pub fifo : worker_flavor s.owner ≡ 0
  pub empty : s.list.items ≡ []
  pub none : vec_len s.list ≡ 0
  pub room : c.room + workers * c.room ≤ vec_capacity s.list

-- and its deque still has slots for the tasks that it is for
pub record IsFilling (c : Call) (workers : ℕ) (s : Seat) : Type 0 where
  pub dealt : IsDealt c workers 0 s
  pub index : worker_index s.owner ≡ length (worker_view s.owner).pushed
  pub slots : c.room ≤ worker_capacity s.owner

-- each seat owns the deque that it owned
abbrev pub HaveSameDeques : List Seat → List Seat → Type 0
HaveSameDeques was seats =
    (i : ℕ) (s : Seat) → i < length seats
    → worker_deque (slice_index_or seats i s).owner ≡ worker_deque (slice_index_or was i s).owner

-- Of all tasks these are left: the others were pushed, each to the deque of the worker to which its bin belongs. There
-- is room for those that are left.
pub record AreFilling (c : Call) (was seats : List Seat) (all left : List Tasking) : Type 0 where
  pub many : length seats ≡ length was
  pub filling : (i : ℕ) (s : Seat) → i < length seats → IsFilling c (length was) (slice_index_or seats i s)
  pub told : All (IsToldIn c) left
  pub once : (k : ℕ → ℕ) → pushed_weigh k seats + tasks_weigh k left ≡ tasks_weigh k all
  pub room : (i : ℕ) (s : Seat) → i < length seats
      → length (worker_view (slice_index_or seats i s).owner).pushed + owned (length was) i left ≤ c.room
  pub same : HaveSameDeques was seats

-- each of the first n seats owns the deque at its place
abbrev pub AreAtTo : {S : Type 0} → (S → RowsId × Global) → ℕ → List S → List Seat → Type 0
AreAtTo {S} deque n deques seats =
    (i : ℕ) (t : S) (s : Seat) → i < n
    → worker_deque (slice_index_or seats i s).owner ≡ deque (slice_index_or deques i t)

-- one stealer's view more is out of the first `upto` deques than of the others
pub record AreLent (c : Call) (workers upto out : ℕ) (seats : List Seat) : Type 0 where
  pub before : (i : ℕ) (s : Seat) → i < upto → i < length seats → IsDealt c workers (out + 1) (slice_index_or seats i s)
  pub after : (i : ℕ) (s : Seat) → upto ≤ i → i < length seats → IsDealt c workers out (slice_index_or seats i s)

-- an owner lent a pass: of what it pushed nothing changed
pub record IsLentOn (s t : Seat) : Type 0 where
  pub passes : t.passes ≡ s.passes
  pub pushed : (worker_view t.owner).pushed ≡ (worker_view s.owner).pushed
  pub deque : worker_deque t.owner ≡ worker_deque s.owner

pub record AreLentOn (seats seats' : List Seat) : Type 0 where
  pub many : length seats' ≡ length seats
  pub each : (i : ℕ) (s : Seat) → i < length seats → IsLentOn (slice_index_or seats i s) (slice_index_or seats' i s)

-- all but passes
pub record IsSeatOn (s t : Seat) : Type 0 where
  pub pushed : (worker_view t.owner).pushed ≡ (worker_view s.owner).pushed
  pub deque : worker_deque t.owner ≡ worker_deque s.owner

pub record AreSeatsOn (seats seats' : List Seat) : Type 0 where
  pub many : length seats' ≡ length seats
  pub each : (i : ℕ) (s : Seat) → i < length seats → IsSeatOn (slice_index_or seats i s) (slice_index_or seats' i s)

-- each of the first n seats has a pass on each deque, which took nothing yet
abbrev pub HaveRowsTo : {S : Type 0} → (S → RowsId × Global) → Call → List S → ℕ → List Seat → Type 0
HaveRowsTo {S} deque c deques n seats =
    (i : ℕ) (s : Seat) → i < n → i < length seats
    → ArePassesOf deque c deques (slice_index_or seats i s).passes.items
    × AreFresh (slice_index_or seats i s).passes.items

-- each is empty, and has room for so many: read off what stands for its members and for its room
abbrev pub AreRoomy : {X Y : Type 0} → (X → List Y) → (X → ℕ) → ℕ → List X → Type 0
AreRoomy {X} {Y} items room n rows = All (λ (x : X). (items x ≡ []) × (n ≤ room x)) rows

-- no worker gets more of the tasks than a deque is for
abbrev pub HaveRoom : ℕ → ℕ → List Tasking → Type 0
HaveRoom workers room tasks = (w : ℕ) → w < workers → owned workers w tasks ≤ room

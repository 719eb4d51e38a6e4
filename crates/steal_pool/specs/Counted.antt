-- The rule of a worker's deque, read place by place.
use Rattle.std.specs.Prelude.{◌≡◌, ◌==◌, ℕ, ◌<◌, cond, List, length, slice_index, slice_index_or}
use Rattle.binning.specs.Cut.{bin_count_of}
use Rattle.bin_queues.specs.QueueParts.{BatchedFrame}
use Rattle.bin_queues.specs.Tasks.{QueuesOf, Tasking}
use Rattle.tile_queues.specs.Shares.{AreWhole}
use Rattle.steal_pool.specs.declared.deque_rule.Call.{Call}
use Rattle.steal_pool.specs.declared.deque_rule.View.{View}
use Rattle.steal_pool.specs.DequeRule.{weigh, HasEvery, Running}
use Rattle.steal_pool.specs.Lists.{joined}
use Rattle.steal_pool.specs.Pools.{tasks_weigh}

-- 1 at this place with this bin
abbrev pub is_at : ℕ × ℕ → ℕ × ℕ → ℕ
is_at p q = cond (p.0 == q.0) (cond (p.1 == q.1) 1 0) 0

-- how often a place with its bin stands in a view's list
abbrev pub times_in : ℕ → ℕ → View → ℕ
times_in i b v = weigh (is_at (i, b)) v.taken

-- how many tasks are of a bin
abbrev pub tasks_of_bin : ℕ → List Tasking → ℕ
tasks_of_bin b tasks = tasks_weigh (λ x. cond (x == b) 1 0) tasks

-- one has it, once, and no other has it
pub record HasOne {A : Type 0} (times : A → ℕ) (xs : List A) : Type 0 where
  pub at : ℕ
  pub within : at < length xs
  pub once : (x : A) → times (slice_index_or xs at x) ≡ 1
  pub others : (j : ℕ) (x : A) → j < length xs → (j ≡ at → ⊥) → times (slice_index_or xs j x) ≡ 0

-- none has it
abbrev pub HasNone : {A : Type 0} → (A → ℕ) → List A → Type 0
HasNone {A} times xs = (j : ℕ) (x : A) → j < length xs → times (slice_index_or xs j x) ≡ 0

-- Each place below front stands in exactly one view's list, once, with the bin that was pushed there.
abbrev pub StandOnce : Type 0
StandOnce =
    (items : List Tasking) (views : List View) (c : Call) (gone : List ℕ) → Running items views c gone
    → (i : ℕ) → i < length gone → HasOne (times_in i (slice_index gone i)) views

-- No other place stands in any.
abbrev pub StandNowhereElse : Type 0
StandNowhereElse =
    (items : List Tasking) (views : List View) (c : Call) (gone : List ℕ) → Running items views c gone
    → (i b : ℕ) → (i < length gone → b ≡ slice_index gone i → ⊥) → HasNone (times_in i b) views

-- Front is the number of all places that were taken.
abbrev pub FrontCounts : Type 0
FrontCounts =
    (items : List Tasking) (views : List View) (c : Call) (gone : List ℕ) → Running items views c gone
    → length gone ≡ weigh (λ (v : View). length v.taken) views

-- An owner that finds its deque empty, where no other view is out, has each place, once, with the bin that was pushed.
abbrev pub OwnerHasEach : Type 0
OwnerHasEach =
    (v : View) → HasEvery v → v.out ≡ 0 → (i : ℕ) → i < length v.pushed → times_in i (slice_index v.pushed i) v ≡ 1

-- and no other
abbrev pub OwnerHasNoOther : Type 0
OwnerHasNoOther =
    (v : View) → HasEvery v → v.out ≡ 0
    → (i b : ℕ) → (i < length v.pushed → b ≡ slice_index v.pushed i → ⊥) → times_in i b v ≡ 0

-- Where lists together are whole, the task of each bin stands in exactly one of them, once.
abbrev pub EachBinOnce : Type 0
EachBinOnce =
    (queues : QueuesOf) (frame : BatchedFrame) (lists : List (List Tasking))
    → AreWhole queues frame (joined (λ ts. ts) lists)
    → (b : ℕ) → b < bin_count_of frame.cut → HasOne (tasks_of_bin b) lists

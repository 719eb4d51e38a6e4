-- What a pool's workers share, and what they drew.
use Rattle.std.specs.Prelude.{◌≡◌, ℕ, ◌+◌, ◌++◌, List, [], ◌∷◌, length}
use Rattle.bin_queues.specs.QueueParts.{BatchedFrame, batched, batches_in}
use Rattle.bin_queues.specs.Tasks.{Tasking}
use Rattle.tile_queues.specs.Shares.{IsTaskOver}
use Rattle.steal_pool.specs.declared.deque_rule.Call.{Call}
use Rattle.steal_pool.specs.declared.deque_rule.View.{View}
use Rattle.steal_pool.specs.declared.pool.Pool.{Pool}
use Rattle.steal_pool.specs.DequeRule.{weigh, with_taken}

-- the frame that is drawn, over the cells
abbrev pub frame_of : {R G : Type 0} → Pool R G → BatchedFrame
frame_of {R} {G} pool = batched pool.list.now.list pool.cut pool.size pool.cells.now

-- what the deques of a pool are named after
abbrev pub call_of : {R G : Type 0} → Pool R G → Call
call_of {R} {G} pool = record { queues = pool.queues.now; frame = frame_of pool; room = pool.room }

-- a list of tasks, and what a view took, by the weights of their bins
abbrev pub tasks_weigh : (ℕ → ℕ) → List Tasking → ℕ
tasks_weigh k ts = weigh (λ (t : Tasking). k t.of.bin) ts

abbrev pub bins_weigh : (ℕ → ℕ) → List (ℕ × ℕ) → ℕ
bins_weigh k ps = weigh (λ (p : ℕ × ℕ). k p.1) ps

-- a task of the named queues and of the named frame, drawn to the end
pub record IsWholeIn (c : Call) (t : Tasking) : Type 0 where
  pub over : IsTaskOver c.queues c.frame t
  pub drawn : t.batches ≡ batches_in c.frame

-- a task joined the list when it was drawn to the end
pub record Joined (c : Call) (list list' : List Tasking) (t : Tasking) : Type 0 where
  pub task : Tasking
  pub list_is : list' ≡ list ++ task ∷ []
  pub bin_is : task.of.bin ≡ t.of.bin
  pub whole : IsWholeIn c task

-- the list grew by what the view took
pub record Drew (list list' : List Tasking) (v v' : View) : Type 0 where
  pub view : v' ≡ with_taken v v'.taken
  pub weighs : (k : ℕ → ℕ) → tasks_weigh k list' + bins_weigh k v.taken ≡ tasks_weigh k list + bins_weigh k v'.taken
  pub many : length list' + length v.taken ≡ length list + length v'.taken

-- The lists of tasks that workers drew.
use Rattle.std.specs.Prelude.{◌≡◌, ℕ, ◌+◌, ◌≤◌, ◌++◌, List, [], ◌∷◌, All, length}
use Rattle.bin_queues.specs.QueueParts.{BatchedFrame, batches_in}
use Rattle.bin_queues.specs.Tasks.{QueuesOf, Tasking}
use Rattle.tile_queues.specs.Owners.{AreTasksOf}
use Rattle.steal_pool.specs.declared.deque_rule.Call.{Call}
use Rattle.steal_pool.specs.declared.seat.Seat.{Seat}
use Rattle.steal_pool.specs.DequeRule.{weigh, nobody}
use Rattle.steal_pool.specs.Finish.{lists_weigh}
use Rattle.steal_pool.specs.Pools.{tasks_weigh, IsWholeIn}

-- the frame of tasks that are all of one
abbrev pub frame_at : List Tasking → BatchedFrame
frame_at [] = nobody.frame
frame_at (t ∷ ts) = t.of.frame

-- the tasks of a frame and of these queues, one of each bin, of which there is one, each told of all batches
pub record AreTold (queues : QueuesOf) (frame : BatchedFrame) (tasks : List Tasking) : Type 0 where
  pub some : 1 ≤ length tasks
  pub tasks_are : AreTasksOf queues frame tasks
  pub told : All (λ t. t.told ≡ batches_in frame) tasks

-- lists one behind the other, each read off what stands for it
abbrev pub joined : {X : Type 0} → (X → List Tasking) → List X → List Tasking
joined {X} items [] = []
joined {X} items (x ∷ xs) = items x ++ joined items xs

-- what lists have together, by the weights of the bins
abbrev pub drawn_weigh : {X : Type 0} → (X → List Tasking) → (ℕ → ℕ) → List X → ℕ
drawn_weigh {X} items k lists = weigh (λ (x : X). tasks_weigh k (items x)) lists

-- each list has tasks of a call alone, all drawn to the end
abbrev pub AreDrawnLists : {X : Type 0} → (X → List Tasking) → Call → List X → Type 0
AreDrawnLists {X} items c lists = All (λ (x : X). All (IsWholeIn c) (items x)) lists

-- of all seats these are left, and the lists are those of the others
pub record AreListed {X : Type 0} (items : X → List Tasking) (c : Call) (all left : List Seat) (lists : List X)
    : Type 0 where
  pub once : (k : ℕ → ℕ) → drawn_weigh items k lists + lists_weigh k left ≡ lists_weigh k all
  pub whole : AreDrawnLists items c lists

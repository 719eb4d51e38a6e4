-- The frame of a pool is that of its tasks.
use Rattle.std.proofs.Common.{◌≡◌, ℕ, ◌≤◌, List, [], ◌∷◌, length, get_or, arith, ap, sym, ◌∙◌}
use Rattle.atomic_table.specs.Seated.{TableId}
use Rattle.binning.specs.Cut.{CutOf, bin_count_of}
use Rattle.cull_base.specs.Tiles.{PieceList}
use Rattle.bin_queues.specs.QueueParts.{BatchedFrame, batched, bin_of_frame}
use Rattle.bin_queues.specs.Tasks.{QueuesOf, Tasking, first_task}
use Rattle.steal_pool.specs.DequeRule.{no_table}
use Rattle.steal_pool.specs.Lists.{AreTold, frame_at}

module _ (frame : BatchedFrame) (queues : QueuesOf) (tasks given : List Tasking) where
  any : Tasking
  any = first_task no_table no_table (bin_of_frame frame 0)

  -- the first task is of this frame
  first_is : AreTold queues frame tasks → given ≡ tasks → (get_or given 0 any).of.frame ≡ frame
  first_is told is = ap (λ (ts : List Tasking). (get_or ts 0 any).of.frame) is ∙ told.tasks_are.frame_is 0 any (let some = told.some in omega (arith, some))

  cut_is : (cut : CutOf) → AreTold queues frame tasks → given ≡ tasks → ((t : Tasking) → cut ≡ (get_or given 0 t).of.frame.cut) → cut ≡ frame.cut
  cut_is cut told is at = at any ∙ ap (λ (f : BatchedFrame). f.cut) (first_is told is)

  size_is : (size : ℕ) → AreTold queues frame tasks → given ≡ tasks → ((t : Tasking) → size ≡ (get_or given 0 t).of.frame.size) → size ≡ frame.size
  size_is size told is at = at any ∙ ap (λ (f : BatchedFrame). f.size) (first_is told is)

module _ (frame : BatchedFrame) (queues : QueuesOf) (tasks given : List Tasking) where
  -- there are no more tasks than there may be bins
  pub bins_few : (cut : CutOf) (bins : ℕ) → AreTold queues frame tasks → given ≡ tasks → ((t : Tasking) → cut ≡ (get_or given 0 t).of.frame.cut) → bins ≡ bin_count_of cut → bins ≤ 64 → length tasks ≤ 64
  bins_few cut bins told is at counted few =
      let n = told.tasks_are.count in
      let e : bin_count_of cut ≡ bin_count_of frame.cut = ap bin_count_of (cut_is frame queues tasks given cut told is at) in
      omega (arith, n, e, counted, few)

  pub same_frame : (list : PieceList) (cells : List TableId) (cut : CutOf) (size : ℕ) → AreTold queues frame tasks → given ≡ tasks → frame.list ≡ list → frame.cells ≡ cells → ((t : Tasking) → cut ≡ (get_or given 0 t).of.frame.cut)
      → ((t : Tasking) → size ≡ (get_or given 0 t).of.frame.size) → frame ≡ batched list cut size cells
  same_frame list cells cut size told is of_list of_cells of_cut of_size =
      let c = cut_is frame queues tasks given cut told is of_cut in
      let s = size_is frame queues tasks given size told is of_size in
      λ i. batched (of_list i) (sym c i) (sym s i) (of_cells i)

-- the frame that is read off the tasks
pub frame_at_is : (frame : BatchedFrame) (queues : QueuesOf) (tasks : List Tasking) → AreTold queues frame tasks → frame_at tasks ≡ frame
frame_at_is frame queues [] told = absurd (let some = told.some in omega (arith, some))
frame_at_is frame queues (t ∷ ts) told = told.tasks_are.frame_is 0 t (omega arith)

-- Frames whose batches are to be submitted.
use Rattle.std.proofs.Common.{◌≡◌, All, List, length, ap, sym, ◌∙◌, subst}
use Rattle.atomic_table.specs.Seated.{TableId}
use Rattle.tile_cells.specs.Cells.{AreFresh, Writing}
use Rattle.bin_queues.specs.Frames.{over}
use Rattle.bin_queues.specs.QueueParts.{BatchedFrame}
use Rattle.bin_queues.specs.Tasks.{AreFirstTasks, IsTaskOf, QueuesOf, Submitting, Tasking}
use Rattle.bin_queues.specs.declared.batched.Batched.{Batched}
use Rattle.tile_queues.specs.Owners.{cells_of}
use Rattle.tile_queues.proofs.Ending.{fresh_cells}

-- the submitter's frame is the batched list over cells
pub framed_is : (frame : Batched) (cells : List TableId) (ws : List Writing) (s : Submitting) → AreFresh cells frame.list.now.list (length cells) ws → s.frame ≡ over frame (cells_of ws) → s.frame ≡ over frame s.frame.cells
framed_is frame cells ws s fresh is =
    let e : s.frame ≡ over frame cells = is ∙ ap (λ (c : List TableId). over frame c) (fresh_cells cells frame.list.now.list ws fresh) in
    subst (λ (f : BatchedFrame). f ≡ over frame f.cells) (sym e) (λ i. over frame cells)

pub are_tasks_of : (queues : QueuesOf) (frame : BatchedFrame) (ts given : List Tasking) → AreFirstTasks queues frame ts → given ≡ ts → All (IsTaskOf queues) given
are_tasks_of queues frame ts given first is = subst (λ (l : List Tasking). All (IsTaskOf queues) l) (sym is) (λ i d lt. first.of i d lt)

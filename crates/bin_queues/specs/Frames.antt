-- Frames of batched lists.
use Rattle.std.specs.Prelude.{List}
use Rattle.atomic_table.specs.Seated.{TableId}
use Rattle.bin_queues.specs.QueueParts.{BatchedFrame, batched}
use Rattle.bin_queues.specs.declared.batched.Batched.{Batched}

-- a batched list over the cells of its tiles, where tiles lie in cells
abbrev pub over : Batched → List TableId → BatchedFrame
over frame cells = batched frame.list.now.list frame.cut.now frame.size cells

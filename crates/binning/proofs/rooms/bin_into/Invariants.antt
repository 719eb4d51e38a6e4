use Rattle.binning.specs.Rooms.{ChangedEach, filled}
use Rattle.binning.proofs.rooms.bin_into.Given as goal

abbrev pub invariant-loop-index : goal.invariant-loop-index
invariant-loop-index l = ChangedEach (filled l.list.list.members l.fn.from l.index) l.fn.rooms l.rooms

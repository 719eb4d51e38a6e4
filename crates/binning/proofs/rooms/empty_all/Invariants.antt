use Rattle.binning.specs.Rooms.{emptied}
use Rattle.binning.proofs.Filling.{AreChanged}
use Rattle.binning.proofs.rooms.empty_all.Given as goal

abbrev pub invariant-loop-j : goal.invariant-loop-j
invariant-loop-j l = AreChanged emptied l.j l.initial.rooms l.rooms

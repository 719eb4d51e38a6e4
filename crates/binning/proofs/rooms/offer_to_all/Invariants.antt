use Rattle.binning.specs.Rooms.{offered}
use Rattle.binning.proofs.Filling.{AreChanged}
use Rattle.binning.proofs.rooms.offer_to_all.Given as goal

abbrev pub invariant-loop-j : goal.invariant-loop-j
invariant-loop-j l = AreChanged (offered l.boxed l.index) l.j l.initial.rooms l.rooms
